-- What steps leave in registers, the pad and the known table, and what is known at a place.
use Rattle.std.proofs.Common.{ℕ, ◌+◌, ◌<◌, ◌≤◌, Bool, true, false, List, [], ◌∷◌, ◌≡◌, refl, sym, ap, ◌∙◌, Option, Some, None, length, arith}
use Rattle.std.specs.Prelude.{if◌then◌else◌, slice_index_or, slice_set}
use Rattle.std.proofs.lemmas.List.{get_or-set_same, get_or-set_other, length-set}
use Rattle.lists.specs.Lists.{overwrite}
use Rattle.rings.specs.Brackets.{may_read, may_write}
use Rattle.policy.specs.Known.{Known, usable}
use Rattle.policy.specs.Verdict.{number}
use Rattle.policy.specs.declared.rule.Rule.{Rule}
use Rattle.policy.specs.declared.rule.Rule.TheVariants.{UnknownSegno}
use Rattle.script_lang.specs.declared.instr.Instr.{Instr}
use Rattle.script_lang.specs.declared.instr.Instr.TheVariants as I
use Rattle.class_model.specs.Config.{Shared, instr_at, program_of}
use Rattle.class_model.specs.Process.{Process, reg, with_reg, reply, known_at, usable_at}
use Rattle.mailbox_laws.specs.Places.{Reads, Writes, Runs, KnowsOne, KnowsNone, Found}

pub reg_other : (p : Process) (a v b : ℕ) → (b ≡ a → ⊥) → reg (with_reg p a v) b ≡ reg p b
reg_other p a v b differ = get_or-set_other p.regs a b v _ differ

pub reg_same : (p : Process) (a v : ℕ) → a < length p.regs → reg (with_reg p a v) a ≡ v
reg_same p a v inside = get_or-set_same p.regs a v _ inside

pub reply_other : (p : Process) (code v b : ℕ) → 2 ≤ b → reg (reply p code v) b ≡ reg p b
reply_other p code v b high =
    get_or-set_other (slice_set p.regs 0 code) 1 b v _ (λ e. (let f : b ≡ 1 = e in omega (arith, high, f))) ∙ get_or-set_other p.regs 0 b code _ (λ e. (let f : b ≡ 0 = e in omega (arith, high, f)))

pub reply_code : (p : Process) (code v : ℕ) → length p.regs ≡ 16 → reg (reply p code v) 0 ≡ code
reply_code p code v sixteen =
    get_or-set_other (slice_set p.regs 0 code) 1 0 v _ (λ e. (let f : 0 ≡ 1 = e in omega (arith, f))) ∙ get_or-set_same p.regs 0 code _ (omega (arith, sixteen))

pub reply_value : (p : Process) (code v : ℕ) → length p.regs ≡ 16 → reg (reply p code v) 1 ≡ v
reply_value p code v sixteen = get_or-set_same (slice_set p.regs 0 code) 1 v _ (let l : length (slice_set p.regs 0 code) ≡ length p.regs = length-set p.regs 0 code in omega (arith, sixteen, l))

-- no rule has the number 0
pub refused_code : (rule : Rule) → number rule ≡ 0 → ⊥
refused_code UnknownSegno e = cc
refused_code rule e = cc

-- ---- what it runs

pub length_over : (xs : List ℕ) (at : ℕ) (vs : List ℕ) → length (overwrite xs at vs) ≡ length xs
length_over xs at [] = refl
length_over xs at (v ∷ vs) = length_over (slice_set xs at v) (at + 1) vs ∙ length-set xs at v

pub runs_set : (s : Shared) (instrs : List Instr) (p : Process) (a v : ℕ) → Runs s instrs p → Runs s instrs (with_reg p a v)
runs_set s instrs p a v r = record { program = r.program; regs = length-set p.regs a v ∙ r.regs; pad = r.pad }

pub runs_reply : (s : Shared) (instrs : List Instr) (p : Process) (code v : ℕ) → Runs s instrs p → Runs s instrs (reply p code v)
runs_reply s instrs p code v r = record { program = r.program; regs = length-set (slice_set p.regs 0 code) 1 v ∙ length-set p.regs 0 code ∙ r.regs; pad = r.pad }

-- where its script, registers and pad are as they were, or a word of the pad is another
pub runs_as : (s : Shared) (instrs : List Instr) (p q : Process) → q.script ≡ p.script → q.regs ≡ p.regs → length q.pad ≡ length p.pad → Runs s instrs p → Runs s instrs q
runs_as s instrs p q script regs pad r = record {
  program = ap (λ n. program_of (slice_index_or s.scripts n None)) script ∙ r.program;
  regs = ap length regs ∙ r.regs;
  pad = pad ∙ r.pad;
}

-- the instruction at a place of what it runs
pub instr_is : (s : Shared) (instrs : List Instr) (p : Process) → Runs s instrs p → (place : ℕ) → p.place ≡ place → instr_at s p.script p.place ≡ slice_index_or instrs place I.Halt
instr_is s instrs p r place at = ap (λ (l : List Instr). slice_index_or l p.place I.Halt) r.program ∙ ap (λ n. slice_index_or instrs n I.Halt) at

-- ---- what it knows

usable_by : (k : Known) (b : Bool) → b ≡ false → (if b then None else Some k) ≡ Some k
usable_by k false e = refl
usable_by k true e = absurd (cc)

pub reads_usable : (p : Process) (segno : ℕ) (k : Reads p segno) → usable_at p segno ≡ Some k.seen
reads_usable p segno k = ap usable k.is ∙ usable_by k.seen _ k.usable

pub writes_usable : (p : Process) (segno : ℕ) (k : Writes p segno) → usable_at p segno ≡ Some k.seen
writes_usable p segno k = ap usable k.is ∙ usable_by k.seen _ k.usable

-- where the known table and the ring are as they were, and the place is in another register
module _ (p q : Process) (i j : ℕ) (known : q.known ≡ p.known) (same : i ≡ j) where
  known_as : known_at q i ≡ known_at p j
  known_as = ap (λ (l : List (Option Known)). slice_index_or l i None) known ∙ ap (λ n. known_at p n) same

  pub writes_as : q.ring ≡ p.ring → Writes p j → Writes q i
  writes_as ring w = record {
    seen = w.seen;
    is = known_as ∙ w.is;
    usable = w.usable;
    ring = ap (λ n. may_read w.seen.brackets n) ring ∙ w.ring;
    rights = w.rights;
    write_ring = ap (λ n. may_write w.seen.brackets n) ring ∙ w.write_ring;
  }

  pub only_as : KnowsOne p j → KnowsOne q i
  only_as one k x high e = one k x high (ap (λ (l : List (Option Known)). slice_index_or l k None) (sym known) ∙ e) ∙ sym same

  pub found_as : q.ring ≡ p.ring → Found p j → Found q i
  found_as ring f = record {
    reads = record { seen = f.reads.seen; is = known_as ∙ f.reads.is; usable = f.reads.usable; ring = ap (λ n. may_read f.reads.seen.brackets n) ring ∙ f.reads.ring };
    only = only_as f.only;
  }

pub none_as : (p q : Process) → q.known ≡ p.known → KnowsNone p → KnowsNone q
none_as p q known none i x high e = none i x high (ap (λ (l : List (Option Known)). slice_index_or l i None) (sym known) ∙ e)
