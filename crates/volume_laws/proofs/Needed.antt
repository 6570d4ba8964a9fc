-- Each of the two premises on words is needed: valid configurations without them leave volumes that aren't valid.
use Rattle.std.proofs.Common.{ℕ, ◌^◌, List, [], ◌∷◌, refl, Option, Some, None, arith}
use Rattle.words_layout.specs.Segments.{seg}
use Rattle.script_lang.specs.declared.instr.Instr.{Instr}
use Rattle.script_lang.specs.declared.instr.Instr.TheVariants as I
use Rattle.class_model.specs.Config.{Config, Script, ProcessLine}
use Rattle.class_model.specs.Process.{ProcName}
use Rattle.class_model.specs.Run.{run}
use Rattle.class_model.specs.Valid.{IsConfig}
use Rattle.class_model.specs.Volume.{volume}
use Rattle.volume_image.specs.Valid.{IsVolume}
use Rattle.volume_laws.specs.Sound.{BothAreNeeded}

-- one segment in entry 0 of the root, with this word or none, and scripts and processes
abbrev small_config : Option (List ℕ) → List (Option Script) → List ProcessLine → Config
small_config kept scripts processes = record {
  table = record { name = 97 ∷ []; label = record { secrecy_level = 0; secrecy_cats = 0; integrity_level = 0; integrity_cats = 0 } } ∷ [];
  pools = record { frames = 1; pages = 1 } ∷ [];
  volumes = 1 ∷ [];
  processors = 1;
  cycle = 0 ∷ [];
  rounds = 1;
  quantum = 1;
  console = 0;
  scripts = scripts;
  gates = [];
  processes = processes;
  records = record { seg = seg 0 1; class = 0; brackets = record { r1 = 7; r2 = 7; r3 = 7 }; size = 1; mentor = seg 0 0; entry = 0; kept = kept } ∷ [];
}

-- a kept word above 64 bits
abbrev kept_high : Config
kept_high = small_config (Some (2 ^ 64 ∷ [])) [] []

kept_high_valid : IsConfig kept_high
kept_high_valid = record { table = refl; pools = refl; volumes = refl; processors = refl; cycle = refl; rounds = refl; console = refl; scripts = refl; gates = refl; processes = refl; records = refl }

kept_high_leaves : IsVolume kept_high.table (volume kept_high 1 (run kept_high [])) → ⊥
kept_high_leaves h = let w = h.records.0.kept.1.0 in absurd (omega (arith, w))

-- a constant above 64 bits, that a process writes into the segment
abbrev writes : List Instr
writes = I.Set 3 3 ∷ I.Set 4 1 ∷ I.Set 5 (2 ^ 64) ∷ I.Set 6 0 ∷ I.MakeKnown 6 6 3 ∷ I.Put 5 6 ∷ I.SwapIn 4 ∷ I.Update 4 6 4 6 ∷ I.SwapOut 4 ∷ I.Halt ∷ []

abbrev set_high : Config
set_high = small_config None (Some (record { class = 0; program = writes }) ∷ []) (record { processor = 0; class = 0; script = 0; ring = 0 } ∷ [])

set_high_valid : IsConfig set_high
set_high_valid = record { table = refl; pools = refl; volumes = refl; processors = refl; cycle = refl; rounds = refl; console = refl; scripts = refl; gates = refl; processes = refl; records = refl }

abbrev one : ProcName
one = record { processor = 0; class = 0; slot = 0 }

set_high_leaves : IsVolume set_high.table (volume set_high 1 (run set_high (one ∷ one ∷ one ∷ one ∷ one ∷ one ∷ one ∷ one ∷ one ∷ []))) → ⊥
set_high_leaves h = let w = h.records.0.kept.1.0 in absurd (omega (arith, w))

pub both_are_needed : BothAreNeeded
both_are_needed = record {
  kept = λ law. kept_high_leaves (law kept_high [] 1 kept_high_valid tt (omega arith));
  constants = λ law. set_high_leaves (law set_high (one ∷ one ∷ one ∷ one ∷ one ∷ one ∷ one ∷ one ∷ one ∷ []) 1 set_high_valid (tt, tt) (omega arith));
}
