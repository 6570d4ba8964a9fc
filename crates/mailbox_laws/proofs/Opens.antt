-- What stands at the opening: new processes by their lines, and no mail.
use Rattle.std.proofs.Common.{ℕ, zero, suc, ◌<◌, List, [], ◌≡◌, refl, sym, ap, subst, ◌∙◌, Option, Some, None, arith}
use Rattle.std.specs.Prelude.{◌&&◌, ◌==◌, map, replicate, slice_get, slice_index_or}
use Rattle.std.specs.List.{filter}
use Rattle.std.specs.Option.{option_map, option_map_or}
use Rattle.lists.specs.Lists.{below}
use Rattle.words_layout.specs.declared.segment.SegId.{SegId}
use Rattle.policy.specs.Known.{Known}
use Rattle.script_lang.specs.declared.instr.Instr.{Instr}
use Rattle.class_model.specs.Config.{Config, Shared, ProcessLine, program_of, shared_of}
use Rattle.class_model.specs.Process.{Process, ProcName, new_process}
use Rattle.class_model.specs.State.{process_at}
use Rattle.class_model.specs.Run.{opening}
use Rattle.mailbox_laws.specs.Mail.{line_of, named_program}
use Rattle.mailbox_laws.specs.Protocol.{Hold, Mail}
use Rattle.mailbox_laws.specs.Places.{MailStands, Poster, Collector, PosterHolds, Runs, KnowsNone, held, sets_entry}
use Rattle.mailbox_laws.proofs.CollectorSteps.{nothing_yet}

-- no one holds a ticket, and nothing is posted
first_mail : (words : List ℕ) (Holds : ProcName → Hold → Type 0) → ((n : ProcName) (h : Hold) → Holds n h → ⊥) → Mail [] words 0 Holds
first_mail words Holds none = record {
  drawn = omega arith;
  served = λ i low. absurd (omega (arith, low));
  each = λ n h e. absurd (none n h e);
  apart = λ m n h g e f same. absurd (none m h e);
}

new_runs : (s : Shared) (instrs : List Instr) (d n ring : ℕ) → program_of (slice_index_or s.scripts n None) ≡ instrs → Runs s instrs (new_process d n ring 0)
new_runs s instrs d n ring is = record { program = is; regs = refl; pad = refl }

-- it knows the root alone
all_none : (n j : ℕ) (x : Known) → slice_index_or (replicate n None) j None ≡ Some x → ⊥
all_none zero j x e = cc
all_none (suc n) zero x e = cc
all_none (suc n) (suc j) x e = all_none n j x e

new_knows : (d n ring : ℕ) → KnowsNone (new_process d n ring 0)
new_knows d n ring zero x high e = omega (arith, high)
new_knows d n ring (suc i) x high e = all_none 15 i x e

-- ---- slots

at_slot : {X : Type 0} (f : ℕ → Option X) (i : ℕ) (x : X) → slice_index_or (map f (below 4)) i None ≡ Some x → f i ≡ Some x
at_slot f zero x h = h
at_slot f (suc zero) x h = h
at_slot f (suc (suc zero)) x h = h
at_slot f (suc (suc (suc zero))) x h = h
at_slot f (suc (suc (suc (suc i)))) x h = absurd (cc)

none_slot : {X : Type 0} (f : ℕ → Option X) (i : ℕ) → i < 4 → slice_index_or (map f (below 4)) i None ≡ None → f i ≡ None
none_slot f zero low h = h
none_slot f (suc zero) low h = h
none_slot f (suc (suc zero)) low h = h
none_slot f (suc (suc (suc zero))) low h = h
none_slot f (suc (suc (suc (suc i)))) low h = absurd (omega (arith, low))

abbrev own_lines : Config → ProcName → List ProcessLine
own_lines k n = filter (λ (l : ProcessLine). l.processor == n.processor && l.class == n.class) k.processes

abbrev begun : ProcName → ProcessLine → Process
begun n l = new_process n.class l.script l.ring 0

-- a process at the opening has a line and is new
new_at : (k : Config) (n : ProcName) (p : Process) → process_at (opening k) n ≡ Some p → (l : ProcessLine) × (line_of k n ≡ Some l) × (new_process n.class l.script l.ring 0 ≡ p)
new_at k n p h = by_line (line_of k n) refl (at_slot (λ i. option_map (begun n) (slice_get (own_lines k n) i)) n.slot p h)
  where
    by_line : (o : Option ProcessLine) → line_of k n ≡ o → option_map (begun n) o ≡ Some p → (l : ProcessLine) × (line_of k n ≡ Some l) × (new_process n.class l.script l.ring 0 ≡ p)
    by_line None e f = absurd (cc)
    by_line (Some l) e f = let same : new_process n.class l.script l.ring 0 ≡ p = cc in (l, e, same)

-- where there is none there is no line
no_line : (k : Config) (n : ProcName) → process_at (opening k) n ≡ None → n.slot < 4 → line_of k n ≡ None
no_line k n h low = by_line (line_of k n) (none_slot (λ i. option_map (begun n) (slice_get (own_lines k n) i)) n.slot low h)
  where
    by_line : (o : Option ProcessLine) → option_map (begun n) o ≡ None → o ≡ None
    by_line None e = refl
    by_line (Some l) e = absurd (cc)

-- it runs what its line names
program_at : (k : Config) (n : ProcName) (l : ProcessLine) → line_of k n ≡ Some l → program_of (slice_index_or k.scripts l.script None) ≡ named_program k n
program_at k n l e = sym (ap (λ o. option_map_or (λ (l : ProcessLine). program_of (slice_index_or k.scripts l.script None)) o []) e)

pub stands_opening : (k : Config) (u : SegId) (words : List ℕ) → MailStands k u [] words 0 (opening k)
stands_opening k u words = record {
  mail = first_mail words (PosterHolds k (opening k) u) none;
  few = omega arith;
  posters = λ n p i h. (let z = new_at k n p h in subst (λ p. Poster (opening k) k n i p) z.2
      (record { runs = new_runs (shared_of k) _ n.class (z.0).script (z.0).ring (program_at k n z.0 z.1 ∙ i.is); at = sets_entry refl refl }));
  collectors = λ n p i h. (let z = new_at k n p h in subst (λ p. Collector (opening k) k [] 0 u n i p) z.2
      (record {
        runs = new_runs (shared_of k) _ n.class (z.0).script (z.0).ring (program_at k n z.0 z.1 ∙ i.is);
        at = sets_entry refl refl (new_knows n.class (z.0).script (z.0).ring);
        has = λ x e f. nothing_yet [] 0 (begun n z.0) refl;
      }));
  slots = λ n. refl;
  lines = λ n h low. no_line k n h low;
}
  where
    none : (n : ProcName) (h : Hold) → PosterHolds k (opening k) u n h → ⊥
    none n h t =
        let z = new_at k n t.process t.there in
        let e : held (begun n z.0) ≡ Some h = subst (λ p. held p ≡ Some h) (sym z.2) t.holds in
        let f : held (begun n z.0) ≡ None = refl in absurd (cc)
