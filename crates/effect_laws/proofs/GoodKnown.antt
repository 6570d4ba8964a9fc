-- What an entry shows a process is good.
use Rattle.std.proofs.Common.{ℕ, ◌≤◌, ◌<◌, Bool, true, not, ◌||◌, List, [], ◌∷◌, ◌≡◌, refl, Option, Some, None, arith}
use Rattle.std.specs.Prelude.{◌==◌}
use Rattle.labels.specs.Label.{label_of}
use Rattle.labels.proofs.OrderLaws.{dominates_twin}
use Rattle.labels.proofs.Tables.{class_antisymmetric}
use Rattle.words_layout.specs.declared.coding.Alias.{Alias}
use Rattle.policy.specs.Known.{Known, observes, modifies, rights_of, alias_brackets, known_by}
use Rattle.policy.specs.Outcome.{shown, judged}
use Rattle.policy.specs.Private.{make_known_tests, ring_read_test, entry_test}
use Rattle.policy.specs.Verdict.{verdict, ◌⇒◌}
use Rattle.policy.specs.declared.rule.Rule.{Rule}
use Rattle.policy.specs.declared.rule.Rule.TheVariants.{BadMode, KstFull}
use Rattle.policy.proofs.Verdicts.{passes_where_permitted}
use Rattle.class_model.specs.Config.{classes, flows}
use Rattle.class_model.specs.State.{State}
use Rattle.process.specs.Fits.{IsSound, OutcomeFits}
use Rattle.process.proofs.Bodies.{IsMode, is_mode}
use Rattle.effect_laws.proofs.Good.{Given, EntryGood, KnownGood}
use Rattle.effect_laws.proofs.Planned.{Passed}
use Rattle.effect_laws.proofs.CreateTests.{passed_head, not_false}
use Rattle.effect_laws.proofs.GoodSettled.{LearnsGood}

-- the mode passed its test
pub mode_good : (ring e mode : ℕ) (full : Bool) (k : Known) → Passed (make_known_tests ring e mode full k) → IsMode mode
mode_good ring e mode full k h =
    let rest : List (Bool × Rule) = (full ⇒ KstFull) ∷ [] in
    let bad : Bool × Rule = not (mode == 1 || mode == 2 || mode == 3) ⇒ BadMode in
    let p1 = (passed_head (ring_read_test ring k) (entry_test e ∷ bad ∷ rest) h).1 in
    let p2 = (passed_head (entry_test e) (bad ∷ rest) p1).1 in
    is_mode mode (not_false (mode == 1 || mode == 2 || mode == 3) (passed_head bad rest p2).0)

module _ (t : Given) (a : State) (sound : IsSound a.shared) (serials : (c : ℕ) → (a.part c).next_serial ≤ 64) (d : ℕ) (below : d < classes a.shared)
    (ring m mode : ℕ) (known_mode : IsMode mode) where
  module _ (x : Alias) (entry : EntryGood t a m x) (passed : verdict (label_of a.shared.table d) ring (label_of a.shared.table x.class) (alias_brackets x) mode ≡ None) where
    up : observes mode ≡ true → flows a.shared x.class d ≡ true
    up o =
        let p = ((passes_where_permitted (label_of a.shared.table d) ring (label_of a.shared.table x.class) (alias_brackets x) mode).0 passed).observing o in
        (dominates_twin (label_of a.shared.table d) (label_of a.shared.table x.class)).1 (p.no_read_up, p.no_read_down)

    down : modifies mode ≡ true → flows a.shared d x.class ≡ true
    down w =
        let p = ((passes_where_permitted (label_of a.shared.table d) ring (label_of a.shared.table x.class) (alias_brackets x) mode).0 passed).modifying w in
        (dominates_twin (label_of a.shared.table x.class) (label_of a.shared.table d)).1 (p.no_write_down, p.no_write_up)

    pub learned_known : KnownGood t a d (known_by m x (rights_of mode))
    learned_known = record {
      fits = record {
        class = entry.class;
        mentor = entry.in_use.mentor;
        serial = (let s = entry.in_use.serial in let l = serials m in omega (arith, s, l));
        size = entry.in_range.1;
        in_order = entry.in_order;
        some_right = known_mode.some_right;
        observed = λ o. up (known_mode.observed o);
        modified = λ w. (let both = known_mode.modified w in class_antisymmetric a.shared.table sound.table x.class d entry.class below (up both.0) (down both.1));
      };
      in_use = entry.in_use;
      size = entry.size;
      brackets = entry.brackets;
    }

  judged_good : (x : Alias) → EntryGood t a m x → (v : Option Rule) → verdict (label_of a.shared.table d) ring (label_of a.shared.table x.class) (alias_brackets x) mode ≡ v →
      OutcomeFits a.shared d (judged v (known_by m x (rights_of mode))) × LearnsGood t a d (judged v (known_by m x (rights_of mode)))
  judged_good x entry None e = let k = learned_known x entry e in (k.fits, k)
  judged_good x entry (Some rule) e = (tt, tt)

  pub shown_good : (o : Option Alias) → ((x : Alias) → o ≡ Some x → EntryGood t a m x) →
      OutcomeFits a.shared d (shown a.shared.table d ring m mode o) × LearnsGood t a d (shown a.shared.table d ring m mode o)
  shown_good None h = (tt, tt)
  shown_good (Some x) h = judged_good x (h x refl) (verdict (label_of a.shared.table d) ring (label_of a.shared.table x.class) (alias_brackets x) mode) refl
