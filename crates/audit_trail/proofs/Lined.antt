-- Each entry of a trail has a line.
use Rattle.std.proofs.Common.{ℕ, ◌<◌, ◌≡◌, true, false, Bool, List, [], ◌∷◌, ◌++◌, refl, subst, Option, Some, None, ◌⊎◌, inl, inr, arith, map}
use Rattle.std.specs.Prelude.{◌==◌, if◌then◌else◌}
use Rattle.std.specs.List.{AllByRecursion, flat_map}
use Rattle.std.specs.Option.{option_map_or}
use Rattle.words_layout.specs.Segments.{seg}
use Rattle.words_layout.specs.declared.coding.Alias.{Alias}
use Rattle.policy.specs.Known.{Known}
use Rattle.policy.specs.Outcome.{Outcome, Refused, Value, Learns, Words, Printed, Looked, Counted}
use Rattle.script_lang.specs.declared.instr.Instr.{Instr}
use Rattle.script_lang.specs.declared.instr.Instr.TheVariants as I
use Rattle.class_model.specs.Access.{Access, child_access, accesses, effect_accesses}
use Rattle.class_model.specs.Plan.{Request, MakeKnown, Create, Delete, SwapIn, SwapOut, Fetch, Update, Read, Advance, Ticket, Out}
use Rattle.class_model.specs.Process.{ProcName}
use Rattle.class_model.specs.Run.{Happened}
use Rattle.class_model.specs.State.{State, entry_at}
use Rattle.whole_machine.specs.Readers.{next_instr}
use Rattle.audit_trail.specs.Instructions.{reply_number}
use Rattle.audit_trail.specs.Lines.{HasLine}
use Rattle.audit_trail.specs.Trail.{access_entry, access_entries, known_asked, is_replied, reply_code, entries_by, effect_entries}
use Rattle.audit_trail.specs.declared.entry.Entry.{Entry}
use Rattle.audit_trail.specs.declared.entry.Entry.TheVariants as E

-- an access is to observe, to modify, or both
abbrev IsKind : Access → Type 0
IsKind x = (x.rights ≡ 1) ⊎ (x.rights ≡ 2) ⊎ (x.rights ≡ 3)

child_kinds : (d : ℕ) (k : Known) (x : Option Alias) (o : Outcome) → AllByRecursion IsKind (child_access d k x o)
child_kinds d k (Some x) (Value v) = by_class (x.class == d)
  where
    by_class : (b : Bool) → AllByRecursion IsKind (if b then record { seg = seg d x.serial; guard = k.seg; rights = 2 } ∷ [] else [])
    by_class true = (inr (inl refl), tt)
    by_class false = tt
child_kinds d k None o = tt
child_kinds d k (Some x) (Refused r) = tt
child_kinds d k (Some x) (Learns z) = tt
child_kinds d k (Some x) (Words at ws) = tt
child_kinds d k (Some x) (Printed at v) = tt
child_kinds d k (Some x) (Looked z) = tt
child_kinds d k (Some x) (Counted z) = tt

kinds : (a : State) (d : ℕ) (q : Request) (o : Outcome) → AllByRecursion IsKind (accesses a d q o)
kinds a d (MakeKnown k e mode) o = (inl refl, tt)
kinds a d (Create k e class b size) o = (inr (inr refl), tt)
kinds a d (Delete k e) o = (inr (inr refl), child_kinds d k (entry_at ((a.part d).cell k.seg) e) o)
kinds a d (SwapIn k) o = (inr (inr refl), tt)
kinds a d (SwapOut k) o = (inr (inr refl), tt)
kinds a d (Fetch k offset count pad) o = (inl refl, tt)
kinds a d (Update k offset words) o = (inr (inr refl), tt)
kinds a d (Read k wanted t) o = (inl refl, tt)
kinds a d (Advance k) o = (inr (inl refl), tt)
kinds a d (Ticket k) o = (inr (inr refl), tt)
kinds a d (Out value) o = tt

effect_kinds : (h : Happened) → AllByRecursion IsKind (effect_accesses h)
effect_kinds h = by_asked h.deed.asked
  where
    by_asked : (o : Option (Request × Outcome)) → AllByRecursion IsKind (option_map_or (λ (x : Request × Outcome). accesses h.before h.who.class x.0 x.1) o [])
    by_asked None = tt
    by_asked (Some x) = kinds h.before h.who.class x.0 x.1

both_parts : (xs ys : List Entry) → AllByRecursion HasLine xs → AllByRecursion HasLine ys → AllByRecursion HasLine (xs ++ ys)
both_parts [] ys h g = g
both_parts (x ∷ xs) ys h g = (h.0, both_parts xs ys h.1 g)

module _ (n : ProcName) (i : ℕ) (small : i < 16) where
  mapped : (class : ℕ) (xs : List Access) → AllByRecursion IsKind xs → AllByRecursion HasLine (map (access_entry n i class) xs)
  mapped class [] h = tt
  mapped class (x ∷ xs) h = ((small, h.0), mapped class xs h.1)

  access_lines : (k : Option Known) (xs : List Access) → AllByRecursion IsKind xs → AllByRecursion HasLine (access_entries n i k xs)
  access_lines None xs h = tt
  access_lines (Some k) [] h = tt
  access_lines (Some k) (x ∷ xs) h = ((small, h.0), mapped n.class xs h.1)

number_small : (i : Instr) (number : ℕ) → reply_number i ≡ Some number → number < 16
number_small i number h = subst Small h (small i)
  where
    Small : Option ℕ → Type 0
    Small None = Unit {0}
    Small (Some m) = m < 16

    small : (i : Instr) → Small (reply_number i)
    small (I.Call g) = omega arith
    small I.Ret = omega arith
    small (I.Spawn n b) = omega arith
    small (I.MakeKnown a b c) = omega arith
    small (I.Terminate a) = omega arith
    small (I.Create a b c x e) = omega arith
    small (I.Delete a b) = omega arith
    small (I.SwapIn a) = omega arith
    small (I.SwapOut a) = omega arith
    small (I.Fetch a b c x) = omega arith
    small (I.Update a b c x) = omega arith
    small (I.Read a) = omega arith
    small (I.Await a b) = omega arith
    small (I.Advance a) = omega arith
    small (I.Ticket a) = omega arith
    small (I.Out a) = omega arith
    small _ = tt

effect_lines : (h : Happened) → AllByRecursion HasLine (effect_entries h)
effect_lines h = by_instr (next_instr h.before h.who)
  where
    by_reply : (i : Instr) (number : ℕ) → number < 16 → (b : Bool) → AllByRecursion HasLine (if b
        then access_entries h.who number (known_asked h.deed.asked) (effect_accesses h) ++ E.Reply h.who number (reply_code h.before h.who i) ∷ [] else [])
    by_reply i number small true = both_parts _ _ (access_lines h.who number small (known_asked h.deed.asked) (effect_accesses h) (effect_kinds h)) (small, tt)
    by_reply i number small false = tt

    by_number : (i : Instr) (o : Option ℕ) → reply_number i ≡ o → AllByRecursion HasLine (entries_by h i o)
    by_number i None e = tt
    by_number i (Some number) e = by_reply i number (number_small i number e) (is_replied h.deed.asked)

    by_instr : (o : Option Instr) → AllByRecursion HasLine (option_map_or (λ (i : Instr). entries_by h i (reply_number i)) o [])
    by_instr None = tt
    by_instr (Some i) = by_number i (reply_number i) refl

pub history_lines : (hs : List Happened) → AllByRecursion HasLine (flat_map effect_entries hs)
history_lines [] = tt
history_lines (h ∷ hs) = both_parts (effect_entries h) (flat_map effect_entries hs) (effect_lines h) (history_lines hs)
