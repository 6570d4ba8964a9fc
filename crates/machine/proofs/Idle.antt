-- The event of a virtual processor without a live process does nothing.
use Rattle.std.proofs.Common.{◌≡◌, ℕ, ◌+◌, ◌%◌, false, List, [], refl, sym, ap, subst, ◌∙◌, Option, None, MatchOption}
use Rattle.std.specs.Prelude.{slice_index_or, slice_set}
use Rattle.std.specs.Option.{option_map}
use Rattle.std.proofs.lemmas.List.{set-get_or}
use Rattle.words_layout.specs.Words.{WordOp}
use Rattle.words_layout.specs.declared.op.Op.{Op}
use Rattle.words_layout.specs.declared.op.Event.{Event}
use Rattle.class_model.specs.Config.{Shared}
use Rattle.process.specs.Running.{Running, next_op}
use Rattle.machine.specs.Banks.{State, no_processing, bank_at, vp_at, with_vp}
use Rattle.machine.specs.Machine.{VirtualProcessor, is_live, live_slot, slot_at, turn_of, vp_op}
use Rattle.machine.specs.Processing.{Processing, holds_live, live_count, vp_of}
use Rattle.machine.specs.Steps.{EventBy, Performs, Rests}
use Rattle.machine.proofs.Slots.{live_is, no_lives}

no_slot : (v : VirtualProcessor) → ((i : ℕ) → is_live (slot_at v i) ≡ false) → live_slot v ≡ None
no_slot v h = rw (h ((v.current + 0) % 4), h ((v.current + 1) % 4), h ((v.current + 2) % 4), h ((v.current + 3) % 4)) refl

-- it has no operation
pub no_op : (s : Shared) (v : Processing) → ((i : ℕ) → holds_live (slice_index_or v.slots i None) ≡ false) → vp_op s v.class (vp_of s v) ≡ None
no_op s v h =
    ap (λ (o : Option ℕ). option_map (λ (x : ℕ × Running). next_op s v.class x.1) (turn_of (vp_of s v) o)) (no_slot (vp_of s v) (λ i. live_is s v i ∙ h i))

-- banks in which it is as it was are as they were
pub vp_kept : (banks : List (List Processing)) (p c : ℕ) → with_vp banks p c (vp_at banks p c) ≡ banks
vp_kept banks p c = ap (λ (bank : List Processing). slice_set banks p bank) (set-get_or (bank_at banks p) c no_processing) ∙ set-get_or banks p []

-- so its event leaves all as it is
pub idle_event : {W : Type 0} (related : W → Op → ℕ → W → Type 0) (e : Event) (m : State W) → live_count (vp_at m.banks e.processor e.class).slots ≡ 0 → EventBy related e m m None
idle_event related e m h =
    let v : Processing = vp_at m.banks e.processor e.class in record {
      after = v;
      step = subst (λ (o : Option WordOp). MatchOption o (Rests v m.words v m.words None) (λ op. Performs related m.shared v m.words v m.words None op))
          (sym (no_op m.shared v (λ i. no_lives v.slots i h))) (record { processing = refl; words_are = refl; no_effect = refl });
      banks = sym (vp_kept m.banks e.processor e.class);
      shared = refl;
    }
