-- The volumes of a configuration whose pools name none.
use Rattle.std.proofs.Common.{ℕ, zero, suc, ◌<◌, ◌≤◌, true, false, not, ◌&&◌, List, [], ◌≡◌, refl, sym, arith}
use Rattle.std.proofs.lemmas.Bool.{and_parts, not-true}
use Rattle.std.specs.Prelude.{Contains}
use Rattle.config_text.specs.declared.config.Config.{Config as ConfigText}
use Rattle.loader.specs.Records.{AreVolumes, named_by, names_volume}
use Rattle.loader.proofs.NamedVolumes.{named_no}

pub no_volume : (k : ConfigText) → (not (names_volume k 1) && not (names_volume k 2) && not (names_volume k 3) && not (names_volume k 4)) ≡ true → AreVolumes k []
no_volume k none =
    let x = and_parts (not (names_volume k 1) && not (names_volume k 2) && not (names_volume k 3)) (not (names_volume k 4)) none in
    let y = and_parts (not (names_volume k 1) && not (names_volume k 2)) (not (names_volume k 3)) x.0 in
    let z = and_parts (not (names_volume k 1)) (not (names_volume k 2)) y.0 in
    record {
      valid = tt;
      ascend = tt;
      named = λ n there. (let low = there.1 in absurd (omega (arith, low)));
      all = λ n low high there. all_of n low high there (not-true _ z.0) (not-true _ z.1) (not-true _ y.1) (not-true _ x.1);
    }
  where
    all_of : (n : ℕ) → 1 ≤ n → n ≤ 4 → Contains (named_by k) n → names_volume k 1 ≡ false → names_volume k 2 ≡ false → names_volume k 3 ≡ false → names_volume k 4 ≡ false → Contains [] n
    all_of zero low high there one two three four = absurd (omega (arith, low))
    all_of (suc zero) low high there one two three four = absurd (named_no k 1 false (sym one) refl there)
    all_of (suc (suc zero)) low high there one two three four = absurd (named_no k 2 false (sym two) refl there)
    all_of (suc (suc (suc zero))) low high there one two three four = absurd (named_no k 3 false (sym three) refl there)
    all_of (suc (suc (suc (suc zero)))) low high there one two three four = absurd (named_no k 4 false (sym four) refl there)
    all_of (suc (suc (suc (suc (suc n))))) low high there one two three four = absurd (omega (arith, high))
