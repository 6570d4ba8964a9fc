-- What one effect more adds to what is posted, and to what is drawn.
use Rattle.std.proofs.Common.{ℕ, Bool, true, false, List, [], ◌∷◌, ◌++◌, ◌≡◌, refl, ap, ◌∙◌, Option, Some, None}
use Rattle.std.specs.Prelude.{if◌then◌else◌}
use Rattle.std.specs.List.{cons_option}
use Rattle.std.specs.Option.{option_map}
use Rattle.std.proofs.lemmas.List.{append-nil}
use Rattle.std.proofs.lemmas.List.Elements.{filter_map-append}
use Rattle.words_layout.specs.declared.segment.SegId.{SegId}
use Rattle.class_model.specs.Process.{Process, reg}
use Rattle.class_model.specs.State.{process_at}
use Rattle.class_model.specs.Run.{Happened}
use Rattle.class_model.specs.Content.{draws}
use Rattle.mailbox_laws.specs.Mail.{posted, posts}

pub posts_push : (u : SegId) (past : List Happened) (h : Happened) → posts u (past ++ h ∷ []) ≡ posts u past ++ cons_option (posted u h) []
posts_push u past h = filter_map-append (posted u) past (h ∷ [])

-- an Ok ticket posts r9 of its process
pub posts_draw : (u : SegId) (past : List Happened) (h : Happened) (p : Process) → draws u h.deed.asked ≡ true → process_at h.before h.who ≡ Some p → posts u (past ++ h ∷ []) ≡ posts u past ++ reg p 9 ∷ []
posts_draw u past h p ok there = posts_push u past h ∙ ap (λ (o : Option ℕ). posts u past ++ cons_option o []) (by_draw (draws u h.deed.asked) ok ∙ ap (λ (o : Option Process). option_map (λ (p : Process). reg p 9) o) there)
  where
    by_draw : (b : Bool) → b ≡ true → (if b then option_map (λ (p : Process). reg p 9) (process_at h.before h.who) else None) ≡ option_map (λ (p : Process). reg p 9) (process_at h.before h.who)
    by_draw true e = refl
    by_draw false e = absurd (cc)

-- any other effect posts nothing
pub posts_stay : (u : SegId) (past : List Happened) (h : Happened) → draws u h.deed.asked ≡ false → posts u (past ++ h ∷ []) ≡ posts u past
posts_stay u past h none = posts_push u past h ∙ ap (λ (o : Option ℕ). posts u past ++ cons_option o []) (by_draw (draws u h.deed.asked) none) ∙ append-nil (posts u past)
  where
    by_draw : (b : Bool) → b ≡ false → (if b then option_map (λ (p : Process). reg p 9) (process_at h.before h.who) else None) ≡ None
    by_draw false e = refl
    by_draw true e = absurd (cc)
