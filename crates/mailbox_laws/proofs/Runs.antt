-- What stands after each prefix of a run in which only posters serve the segment.
use Rattle.std.proofs.Common.{ℕ, ◌+◌, ◌^◌, ◌<◌, ◌≤◌, Bool, true, false, List, [], ◌∷◌, ◌++◌, ◌≡◌, refl, sym, ap, subst, ◌∙◌, Option, Some, None, append_assoc, length, take, arith}
use Rattle.std.specs.Prelude.{slice_get, if◌then◌else◌}
use Rattle.std.proofs.lemmas.List.{append-nil, length-append}
use Rattle.std.proofs.Math.Seq.{take-append_seam}
use Rattle.lists.specs.Lists.{part_of}
use Rattle.words_layout.specs.Segments.{same_seg}
use Rattle.words_layout.specs.declared.segment.SegId.{SegId}
use Rattle.words_layout.proofs.Names.{same_seg-true}
use Rattle.policy.specs.Known.{Known}
use Rattle.policy.specs.Outcome.{Outcome, Value, Words, Counted}
use Rattle.class_model.specs.Config.{Config}
use Rattle.class_model.specs.Process.{Process, ProcName, reg, known_at}
use Rattle.class_model.specs.Plan.{Request, Fetch, Read, Ticket, plan}
use Rattle.class_model.specs.State.{State, process_at}
use Rattle.class_model.specs.Step.{Deed, deed, deed_by, deed_of, done}
use Rattle.class_model.specs.Run.{Happened, happened, history, opening, run, steps}
use Rattle.class_model.specs.Valid.{IsConfig}
use Rattle.class_model.specs.Access.{given_to, all_given}
use Rattle.class_model.specs.Content.{draws, advances, tickets_in, ShowsRight}
use Rattle.access_laws.proofs.Told.{IsGiven}
use Rattle.content_laws.specs.Contents.{IsBetween, advanced}
use Rattle.content_laws.proofs.Shown.{one, count_push}
use Rattle.content_laws.proofs.Steps.{AskedGiven, StepShown, step_shown}
use Rattle.content_laws.proofs.History.{At, at_place, few_for}
use Rattle.content_laws.proofs.Between.{reads_are_between}
use Rattle.mailbox_laws.specs.Mail.{OnlyPosters, MailArrives, posts}
use Rattle.mailbox_laws.specs.Places.{MailStands}
use Rattle.mailbox_laws.proofs.Told.{Told}
use Rattle.mailbox_laws.proofs.Slots.{Changes, changes}
use Rattle.mailbox_laws.proofs.Steps.{Becomes, stands_after}
use Rattle.mailbox_laws.proofs.Pushes.{posts_draw, posts_stay}
use Rattle.mailbox_laws.proofs.Sizes.{words_after, words_size, words_stay, words_change}
use Rattle.mailbox_laws.proofs.Opens.{stands_opening}
use Rattle.mailbox_laws.proofs.Prefix.{arrives_by}

-- a step that is made is that of a process
pub record IsDeed (a : State) (n : ProcName) (x : Deed) : Type 0 where
  pub process : Process
  pub there : process_at a n ≡ Some process
  pub is : deed_of a n process (plan a.shared n.class process) ≡ x

pub deed_is : (a : State) (n : ProcName) (x : Deed) → deed a n ≡ Some x → IsDeed a n x
deed_is a n x e = by_process (process_at a n) refl e
  where
    by_live : (p : Process) → process_at a n ≡ Some p → (b : Bool) → (if b then Some (deed_of a n p (plan a.shared n.class p)) else None) ≡ Some x → IsDeed a n x
    by_live p f true h = record { process = p; there = f; is = cc }
    by_live p f false h = absurd (cc)

    by_process : (o : Option Process) → process_at a n ≡ o → deed_by a n o ≡ Some x → IsDeed a n x
    by_process None f h = absurd (cc)
    by_process (Some p) f h = by_live p f p.live h

pub at_seam : {X : Type 0} (xs : List X) (h : X) (ys : List X) → slice_get (xs ++ h ∷ ys) (length xs) ≡ Some h
at_seam [] h ys = refl
at_seam (x ∷ xs) h ys = at_seam xs h ys

module _ (k : Config) (names : List ProcName) (u : SegId) (valid : IsConfig k) (few : length names ≤ 2 ^ 64) (only : OnlyPosters k u (history (opening k) names)) where
  abbrev all : List Happened
  all = history (opening k) names

  -- after these effects, in this state
  record StandsAt (past : List Happened) (a : State) : Type 0 where
    tickets : length (posts u past) ≡ tickets_in u past
    mail : MailStands k u (posts u past) (words_after k u past) (advanced u past) a

  -- one effect more
  module _ (past : List Happened) (a : State) (z : StandsAt past a) (n : ProcName) (x : Deed) (made : deed a n ≡ Some x) (later : List Happened) (whole : past ++ record { who = n; before = a; deed = x } ∷ later ≡ all) where
    abbrev h : Happened
    h = record { who = n; before = a; deed = x }

    here : slice_get all (length past) ≡ Some h
    here = ap (λ l. slice_get l (length past)) (sym whole) ∙ at_seam past h later

    before_is : take (length past) all ≡ past
    before_is = ap (take (length past)) (sym whole) ∙ take-append_seam past (h ∷ later)

    place : At k past h
    place = subst (λ l. At k l h) before_is (at_place k names valid (length past) h here).0

    short : length past < 2 ^ 64
    short = let low = (at_place k names valid (length past) h here).1 in omega (arith, low, few)

    shown : StepShown k past a n x
    shown = let s = place.stands in step_shown k past place.steps a s.table s.good s.told s.shown s.looks n x made

    between : IsBetween k past n x.asked
    between = subst (λ l. IsBetween k l n x.asked) before_is (reads_are_between k names valid few (length past) h here)

    d : IsDeed a n x
    d = deed_is a n x made

    size_by : (y : Known) → IsGiven (all_given k past) y.seg y.class y.brackets y.size → same_seg y.seg u ≡ true → length (words_after k u past) ≡ y.size
    size_by y given of_u = words_size k valid u past _ (ap (given_to (all_given k past)) (sym (same_seg-true y.seg u of_u)) ∙ given)

    sizes : (i : ℕ) (y : Known) → known_at d.process i ≡ Some y → same_seg y.seg u ≡ true → length (words_after k u past) ≡ y.size
    sizes i y e of_u = size_by y (place.stands.told.processes n d.process d.there i y e).given of_u

    told_by : (asked : Option (Request × Outcome)) → ShowsRight k past n asked → IsBetween k past n asked → AskedGiven (all_given k past) asked → Told u (posts u past) (words_after k u past) (advanced u past) asked
    told_by (Some (Ticket y, Value v)) right mid given = λ of_u. right ∙ ap (λ s. tickets_in s past) (same_seg-true y.seg u of_u) ∙ sym z.tickets
    told_by (Some (Read y wanted t, Counted v)) right mid given = λ of_u. (right.1, (let up : v ≤ advanced u past = subst (λ s. v ≤ advanced s past) (same_seg-true y.seg u of_u) mid.1 in up))
    told_by (Some (Fetch y offset m pad, Words at ws)) right mid given = λ of_u. (right ∙ ap (λ s. part_of (words_after k s past) offset m) (same_seg-true y.seg u of_u), size_by y given of_u)
    told_by _ right mid given = tt

    told : Told u (posts u past) (words_after k u past) (advanced u past) x.asked
    told = told_by x.asked (shown.right (few_for k past x.asked short)) between shown.given

    count_is : (b : Bool) → advances u x.asked ≡ b → advanced u (past ++ h ∷ []) ≡ advanced u past + one b
    count_is b e = count_push (λ (h : Happened). advances u h.deed.asked) past h ∙ ap (λ b. advanced u past + one b) e

    becomes : Becomes u d.process x.asked (posts u past) (words_after k u past) (advanced u past) (posts u (past ++ h ∷ [])) (words_after k u (past ++ h ∷ [])) (advanced u (past ++ h ∷ []))
    becomes = record {
      drawn = λ e. posts_draw u past h d.process e d.there;
      undrawn = λ e. posts_stay u past h e;
      written = words_change k u past h (shown.shown.unwritten u);
      unwritten = words_stay k u past h (place.stands.shown.unwritten u) (place.stands.shown.records u);
      advanced = λ e. count_is true e;
      unadvanced = λ e. count_is false e ∙ (let s : advanced u past + 0 ≡ advanced u past = omega arith in s);
    }

    tickets_after : (b : Bool) → draws u x.asked ≡ b → length (posts u (past ++ h ∷ [])) ≡ tickets_in u (past ++ h ∷ [])
    tickets_after b e = by_draw b e ∙ sym (count_push (λ (h : Happened). draws u h.deed.asked) past h ∙ ap (λ b. tickets_in u past + one b) e)
      where
        by_draw : (b : Bool) → draws u x.asked ≡ b → length (posts u (past ++ h ∷ [])) ≡ tickets_in u past + one b
        by_draw true e = ap length (posts_draw u past h d.process e d.there) ∙ length-append (posts u past) (reg d.process 9 ∷ []) ∙ ap (λ n. n + 1) z.tickets
        by_draw false e = ap length (posts_stay u past h e) ∙ z.tickets ∙ (let s : tickets_in u past ≡ tickets_in u past + 0 = omega arith in s)

    one_more : StandsAt (past ++ h ∷ []) (done a n.class (Some x))
    one_more = record {
      tickets = tickets_after (draws u x.asked) refl;
      mail = stands_after k u (posts u past) (words_after k u past) (advanced u past) a z.mail n d.process d.there x (subst (Changes a n d.process) d.is (changes a n d.process d.there)) sizes told
          (λ e. only (length past) h here e) (posts u (past ++ h ∷ [])) (words_after k u (past ++ h ∷ [])) (advanced u (past ++ h ∷ [])) becomes;
    }

  abbrev Each : List ProcName → Type 0
  Each rest = (past : List Happened) (a : State) → StandsAt past a → past ++ history a rest ≡ all → StandsAt (past ++ history a rest) (steps a rest)

  one_name : (n : ProcName) (rest : List ProcName) → Each rest → Each (n ∷ rest)
  one_name n rest go past a z whole = by_deed (deed a n) refl whole
    where
      by_deed : (o : Option Deed) → deed a n ≡ o → past ++ happened a n o (history (done a n.class o) rest) ≡ all → StandsAt (past ++ happened a n o (history (done a n.class o) rest)) (steps (done a n.class o) rest)
      by_deed None e w = go past a z w
      by_deed (Some x) e w =
          let h : Happened = record { who = n; before = a; deed = x } in
          let b : State = done a n.class (Some x) in
          let seam : (past ++ h ∷ []) ++ history b rest ≡ past ++ h ∷ history b rest = append_assoc past (h ∷ []) (history b rest) in
          subst (λ l. StandsAt l (steps b rest)) seam (go (past ++ h ∷ []) b (one_more past a z n x e (history b rest) w) (seam ∙ w))

  each : (rest : List ProcName) → Each rest
  each [] past a z whole = subst (λ l. StandsAt l a) (sym (append-nil past)) z
  each (n ∷ rest) past a z whole = one_name n rest (each rest) past a z whole

  stands_all : StandsAt all (run k names)
  stands_all = each names [] (opening k) (record { tickets = refl; mail = stands_opening k u (words_after k u []) }) refl

pub mail_arrives : MailArrives
mail_arrives k names u valid few only = arrives_by k u _ _ _ (run k names) (stands_all k names u valid few only).mail
