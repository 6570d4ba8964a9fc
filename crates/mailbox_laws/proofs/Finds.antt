-- What a mode that was granted lets: 3 lets read and write by the ring, 1 lets read.
use Rattle.std.proofs.Common.{ℕ, Bool, true, false, [], ◌∷◌, ◌≡◌, refl, None}
use Rattle.std.specs.Prelude.{not}
use Rattle.labels.specs.Label.{Label, secrecy_at_least, integrity_at_least}
use Rattle.rings.specs.Brackets.{Brackets, may_read, may_write}
use Rattle.policy.specs.Known.{rights_of, signals, modifies}
use Rattle.policy.specs.Verdict.{verdict, first_broken}
use Rattle.policy.specs.declared.rule.Rule.TheVariants.{SecrecyRead, IntegrityRead, SecrecyWrite, IntegrityWrite, RingRead, RingWrite}

six : (a b c d e f : Bool) → first_broken ((not a, SecrecyRead) ∷ (not b, IntegrityRead) ∷ (not c, RingRead) ∷ (not d, SecrecyWrite) ∷ (not e, IntegrityWrite) ∷ (not f, RingWrite) ∷ []) ≡ None → (c ≡ true) × (f ≡ true)
six true true true true true true h = (refl, refl)
six true true true true true false h = absurd (cc)
six true true true true false f h = absurd (cc)
six true true true false e f h = absurd (cc)
six true true false d e f h = absurd (cc)
six true false c d e f h = absurd (cc)
six false b c d e f h = absurd (cc)

three : (a b c : Bool) → first_broken ((not a, SecrecyRead) ∷ (not b, IntegrityRead) ∷ (not c, RingRead) ∷ []) ≡ None → c ≡ true
three true true true h = refl
three true true false h = absurd (cc)
three true false c h = absurd (cc)
three false b c h = absurd (cc)

pub grants_both : (s o : Label) (ring : ℕ) (b : Brackets) → verdict s ring o b 3 ≡ None → (may_read b ring ≡ true) × (may_write b ring ≡ true)
grants_both s o ring b h = six (secrecy_at_least s o) (integrity_at_least o s) (may_read b ring) (secrecy_at_least o s) (integrity_at_least s o) (may_write b ring) h

pub grants_observe : (s o : Label) (ring : ℕ) (b : Brackets) → verdict s ring o b 1 ≡ None → may_read b ring ≡ true
grants_observe s o ring b h = three (secrecy_at_least s o) (integrity_at_least o s) (may_read b ring) h

pub both_rights : (signals (rights_of 3) ≡ false) × (modifies (rights_of 3) ≡ true)
both_rights = (refl, refl)

pub observe_rights : signals (rights_of 1) ≡ false
observe_rights = refl
