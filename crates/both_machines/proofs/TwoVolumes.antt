-- The two volumes of the tests are those of their configuration.
use Rattle.std.proofs.Common.{ℕ, zero, suc, ◌<◌, ◌≤◌, true, false, not, ◌&&◌, List, [], ◌∷◌, ◌≡◌, refl, sym, subst, arith}
use Rattle.std.proofs.lemmas.Bool.{and_parts, not-true}
use Rattle.std.specs.Prelude.{Contains, slice_index_or}
use Rattle.config_text.specs.declared.config.Config.{Config as ConfigText}
use Rattle.config_text.specs.declared.config.Pool.{Pool as PoolText}
use Rattle.class_model.specs.Config.{SegRecord}
use Rattle.volume_image.specs.Valid.{IsVolume}
use Rattle.loader.specs.Records.{AreVolumes, named_by, names_volume}
use Rattle.loader.proofs.NamedVolumes.{named_yes, named_no}

pub two_volumes : (k : ConfigText) (a b : List SegRecord) → IsVolume k.table a → IsVolume k.table b → (names_volume k 1 && names_volume k 2 && not (names_volume k 3) && not (names_volume k 4)) ≡ true → AreVolumes k ((1, a) ∷ (2, b) ∷ [])
two_volumes k a b first second two =
    let x = and_parts (names_volume k 1 && names_volume k 2 && not (names_volume k 3)) (not (names_volume k 4)) two in
    let y = and_parts (names_volume k 1 && names_volume k 2) (not (names_volume k 3)) x.0 in
    let z = and_parts (names_volume k 1) (names_volume k 2) y.0 in
    record {
      valid = (first, (second, tt));
      ascend = (omega arith, (omega arith, tt));
      named = λ n there. named_one n there.0 there.1 there.2 z.0 z.1;
      all = λ n low high there. all_of n low high there (not-true _ y.1) (not-true _ x.1);
    }
  where
    named_one : (n i : ℕ) → i < 2 → slice_index_or (1 ∷ 2 ∷ []) i n ≡ n → names_volume k 1 ≡ true → names_volume k 2 ≡ true → (n ≤ 4) × Contains (named_by k) n
    named_one n zero lt e one two = (omega (arith, e), subst (Contains (named_by k)) e (named_yes k 1 true (sym one) refl))
    named_one n (suc zero) lt e one two = (omega (arith, e), subst (Contains (named_by k)) e (named_yes k 2 true (sym two) refl))
    named_one n (suc (suc i)) lt e one two = absurd (omega (arith, lt))

    all_of : (n : ℕ) → 1 ≤ n → n ≤ 4 → Contains (named_by k) n → names_volume k 3 ≡ false → names_volume k 4 ≡ false → Contains (1 ∷ 2 ∷ []) n
    all_of zero low high there three four = absurd (omega (arith, low))
    all_of (suc zero) low high there three four = (0, omega arith, refl)
    all_of (suc (suc zero)) low high there three four = (1, omega arith, refl)
    all_of (suc (suc (suc zero))) low high there three four = absurd (named_no k 3 false (sym three) refl there)
    all_of (suc (suc (suc (suc zero)))) low high there three four = absurd (named_no k 4 false (sym four) refl there)
    all_of (suc (suc (suc (suc (suc n))))) low high there three four = absurd (omega (arith, high))
