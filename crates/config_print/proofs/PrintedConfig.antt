-- A printed configuration is spelled by its text.
use Rattle.std.proofs.Common.{◌≡◌, ℕ, zero, suc, ◌+◌, ◌-◌, ◌*◌, ◌^◌, ◌<◌, ◌≤◌, Bool, true, false, not, cond, ltb, leb, eqb, ◌&&◌, List, [], ◌∷◌, ◌++◌, length, Option, Some, None, slice_get, refl, sym, ap, subst, ◌∙◌, append_assoc, arith}
use Rattle.std.specs.Prelude.{map, codes}
use Rattle.std.specs.Option.{option_map_or}
use Rattle.std.specs.List.{AllZip, AllByRecursion, list_all, flat_map}
use Rattle.std.specs.Str.{bytes_eq}
use Rattle.std.proofs.lemmas.Bool.{and_parts, leb-true, ltb-true, eqb-true}
use Rattle.std.proofs.lemmas.List.{append-nil, map-append}
use Rattle.std.proofs.lemmas.Option.{slice_get_within}
use Rattle.text_lines.specs.Lines.{lines, words_of}
use Rattle.text_lines.specs.Name.{all_allowed, is_name}
use Rattle.text_lines.specs.Printed.{spaced, printed, IsWord, IsLineOfWords}
use Rattle.text_lines.proofs.PrintedWords.{line_words, line_allowed, printed_lines, name_word}
use Rattle.labels.specs.Label.{ClassEntry, class_at, label_of, at_or_below}
use Rattle.labels.specs.Order.{IsLabel}
use Rattle.script_lang.specs.Program.{program_ok, target_ok}
use Rattle.script_lang.specs.declared.instr.Instr.{Instr}
use Rattle.script_lang.specs.declared.instr.Instr.TheVariants as I
use Rattle.script_asm.specs.declared.op.Op.{Op}
use Rattle.script_asm.specs.declared.op.Op.TheVariants as op
use Rattle.script_asm.specs.Operand.{op_text}
use Rattle.script_asm.specs.Item.{Fits, item_text, instr_items, instr_words, op_for}
use Rattle.script_asm.specs.ScriptText.{script_text}
use Rattle.script_asm.specs.Spelling.{Spells as SpellsScript}
use Rattle.script_asm.proofs.PrintedProgram.{line_of_words, lines_again, printed_spells}
use Rattle.config_text.specs.declared.config.Pool.{Pool}
use Rattle.config_text.specs.declared.config.Script.{Script}
use Rattle.config_text.specs.declared.config.GateLine.{GateLine}
use Rattle.config_text.specs.declared.config.ProcessLine.{ProcessLine}
use Rattle.config_text.specs.declared.config.Item.{Item}
use Rattle.config_text.specs.declared.config.Item.TheVariants as item
use Rattle.config_text.specs.declared.config.Config.{Config}
use Rattle.config_text.specs.Written.{Word, word_text, number, number_line, number_lines, header_lines, front_lines, class_line, class_lines, cycle_line, instr_line, script_lines, gate_line, process_line, item_line, end_line, config_lines, texts_of, written}
use Rattle.config_text.specs.Valid.{IsValid, pool_ok, instr_ok, script_ok, gate_ok, process_ok, item_ok, is_class, uses_script, within}
use Rattle.config_text.specs.Rules.{Line, is_end}
use Rattle.config_text.specs.Text.{SpellsWord, StartsWith, StartsWithScript, Part, one_line, body, AreParts, IsGroup, group_line, script_parts, as_lines, body_parts, config_parts, Spells}
use Rattle.config_print.proofs.Pieces.{same_words, instr_texts}
use Rattle.config_print.proofs.PlainLines.{IsFineWord, IsFineLine, AreFine, all_spelled, fine_line, fine_append, fixed_word}

-- ---- instructions

low : (n : ℕ) → ltb n 16 ≡ true → n ≤ 15
low n e = omega (arith, ltb-true n 16 e)

index : (n : ℕ) → ltb n 32 ≡ true → n ≤ 31
index n e = omega (arith, ltb-true n 32 e)

near : (count to : ℕ) → count ≤ 256 → ltb to count ≡ true → to < 65536
near count to few e = omega (arith, ltb-true to count e, few)

fits : (count : ℕ) (i : Instr) → count ≤ 256 → target_ok count i ≡ true → instr_ok i ≡ true → Fits i
fits count I.Halt few t e = tt
fits count (I.Set a n) few t e = let p = and_parts (ltb a 16 && true) (ltb n 18446744073709551616) e in let x0 = and_parts (ltb a 16) true p.0 in (low a x0.0, (ltb-true n 18446744073709551616 p.1, tt))
fits count (I.Copy a b) few t e = let x0 = and_parts (ltb a 16) (ltb b 16 && (true)) e in let x1 = and_parts (ltb b 16) (true) x0.1 in (low a x0.0, (low b x1.0, tt))
fits count (I.Add a b) few t e = let x0 = and_parts (ltb a 16) (ltb b 16 && (true)) e in let x1 = and_parts (ltb b 16) (true) x0.1 in (low a x0.0, (low b x1.0, tt))
fits count (I.Sub a b) few t e = let x0 = and_parts (ltb a 16) (ltb b 16 && (true)) e in let x1 = and_parts (ltb b 16) (true) x0.1 in (low a x0.0, (low b x1.0, tt))
fits count (I.Jump to) few t e = (near count to few t, tt)
fits count (I.JumpZ a to) few t e = let x0 = and_parts (ltb a 16) (true) e in (low a x0.0, (near count to few t, tt))
fits count (I.JumpL a b to) few t e = let x0 = and_parts (ltb a 16) (ltb b 16 && (true)) e in let x1 = and_parts (ltb b 16) (true) x0.1 in (low a x0.0, (low b x1.0, (near count to few t, tt)))
fits count (I.Get a b) few t e = let x0 = and_parts (ltb a 16) (ltb b 16 && (true)) e in let x1 = and_parts (ltb b 16) (true) x0.1 in (low a x0.0, (low b x1.0, tt))
fits count (I.Put a b) few t e = let x0 = and_parts (ltb a 16) (ltb b 16 && (true)) e in let x1 = and_parts (ltb b 16) (true) x0.1 in (low a x0.0, (low b x1.0, tt))
fits count (I.Call g) few t e = (index g e, tt)
fits count I.Ret few t e = tt
fits count (I.Spawn s b) few t e = let p = and_parts (ltb s 32) (ltb b 16 && true) e in let x0 = and_parts (ltb b 16) true p.1 in (index s p.0, (low b x0.0, tt))
fits count (I.MakeKnown a b c) few t e = let x0 = and_parts (ltb a 16) (ltb b 16 && (ltb c 16 && (true))) e in let x1 = and_parts (ltb b 16) (ltb c 16 && (true)) x0.1 in let x2 = and_parts (ltb c 16) (true) x1.1 in (low a x0.0, (low b x1.0, (low c x2.0, tt)))
fits count (I.Terminate a) few t e = let x0 = and_parts (ltb a 16) (true) e in (low a x0.0, tt)
fits count (I.Create a b c d f) few t e = let x0 = and_parts (ltb a 16) (ltb b 16 && (ltb c 16 && (ltb d 16 && (ltb f 16 && (true))))) e in let x1 = and_parts (ltb b 16) (ltb c 16 && (ltb d 16 && (ltb f 16 && (true)))) x0.1 in let x2 = and_parts (ltb c 16) (ltb d 16 && (ltb f 16 && (true))) x1.1 in let x3 = and_parts (ltb d 16) (ltb f 16 && (true)) x2.1 in let x4 = and_parts (ltb f 16) (true) x3.1 in (low a x0.0, (low b x1.0, (low c x2.0, (low d x3.0, (low f x4.0, tt)))))
fits count (I.Delete a b) few t e = let x0 = and_parts (ltb a 16) (ltb b 16 && (true)) e in let x1 = and_parts (ltb b 16) (true) x0.1 in (low a x0.0, (low b x1.0, tt))
fits count (I.SwapIn a) few t e = let x0 = and_parts (ltb a 16) (true) e in (low a x0.0, tt)
fits count (I.SwapOut a) few t e = let x0 = and_parts (ltb a 16) (true) e in (low a x0.0, tt)
fits count (I.Fetch a b c d) few t e = let x0 = and_parts (ltb a 16) (ltb b 16 && (ltb c 16 && (ltb d 16 && (true)))) e in let x1 = and_parts (ltb b 16) (ltb c 16 && (ltb d 16 && (true))) x0.1 in let x2 = and_parts (ltb c 16) (ltb d 16 && (true)) x1.1 in let x3 = and_parts (ltb d 16) (true) x2.1 in (low a x0.0, (low b x1.0, (low c x2.0, (low d x3.0, tt))))
fits count (I.Update a b c d) few t e = let x0 = and_parts (ltb a 16) (ltb b 16 && (ltb c 16 && (ltb d 16 && (true)))) e in let x1 = and_parts (ltb b 16) (ltb c 16 && (ltb d 16 && (true))) x0.1 in let x2 = and_parts (ltb c 16) (ltb d 16 && (true)) x1.1 in let x3 = and_parts (ltb d 16) (true) x2.1 in (low a x0.0, (low b x1.0, (low c x2.0, (low d x3.0, tt))))
fits count (I.Read a) few t e = let x0 = and_parts (ltb a 16) (true) e in (low a x0.0, tt)
fits count (I.Await a b) few t e = let x0 = and_parts (ltb a 16) (ltb b 16 && (true)) e in let x1 = and_parts (ltb b 16) (true) x0.1 in (low a x0.0, (low b x1.0, tt))
fits count (I.Advance a) few t e = let x0 = and_parts (ltb a 16) (true) e in (low a x0.0, tt)
fits count (I.Ticket a) few t e = let x0 = and_parts (ltb a 16) (true) e in (low a x0.0, tt)
fits count (I.Out a) few t e = let x0 = and_parts (ltb a 16) (true) e in (low a x0.0, tt)

all_fit : (count : ℕ) (is : List Instr) → count ≤ 256 → list_all (λ i. target_ok count i) is ≡ true → list_all instr_ok is ≡ true → AllByRecursion Fits is
all_fit count [] few t e = tt
all_fit count (i ∷ is) few t e =
    let a = and_parts (target_ok count i) (list_all (λ x. target_ok count x) is) t in
    let b = and_parts (instr_ok i) (list_all instr_ok is) e in
    (fits count i few a.0 b.0, all_fit count is few a.1 b.1)

program_fits : (is : List Instr) → program_ok is ≡ true → list_all instr_ok is ≡ true → AllByRecursion Fits is
program_fits is ok ranges =
    let a = and_parts (leb 1 (length is) && leb (length is) 256 && list_all (λ i. target_ok (length is) i) is) (Rattle.script_lang.specs.Fault.ends_well is) ok in
    let b = and_parts (leb 1 (length is) && leb (length is) 256) (list_all (λ i. target_ok (length is) i) is) a.0 in
    let c = and_parts (leb 1 (length is)) (leb (length is) 256) b.0 in
    all_fit (length is) is (leb-true _ _ c.1) b.1 ranges

not_end : (o : Op) → bytes_eq (op_text o) (codes "end") ≡ false
not_end op.Halt = refl
not_end op.Set = refl
not_end op.Copy = refl
not_end op.Add = refl
not_end op.Sub = refl
not_end op.Jump = refl
not_end op.JumpZ = refl
not_end op.JumpL = refl
not_end op.Get = refl
not_end op.Put = refl
not_end op.Call = refl
not_end op.Ret = refl
not_end op.Spawn = refl
not_end op.MakeKnown = refl
not_end op.Terminate = refl
not_end op.Create = refl
not_end op.Delete = refl
not_end op.SwapIn = refl
not_end op.SwapOut = refl
not_end op.Fetch = refl
not_end op.Update = refl
not_end op.Read = refl
not_end op.Await = refl
not_end op.Advance = refl
not_end op.Ticket = refl
not_end op.Out = refl

no_end_words : (o : Op) (ws : List (List ℕ)) → is_end (op_text o ∷ ws) ≡ false
no_end_words o [] = not_end o
no_end_words o (w ∷ ws) = refl

no_end : (i : Instr) → Fits i → is_end (words_of (spaced (instr_words i))) ≡ false
no_end i fit = rw (line_words (instr_words i) (line_of_words i fit)) (no_end_words (op_for i) _)

goes : (is : List Instr) → AllByRecursion Fits is → AllByRecursion (λ line. is_end (words_of line) ≡ false) (map spaced (map instr_words is))
goes [] fit = tt
goes (i ∷ is) fit = (no_end i fit.0, goes is fit.1)

-- ---- lines and parts

-- the lines of these words
abbrev shown : List (List Word) → List Line
shown ls = map spaced (texts_of ls)

shown-append : (xs ys : List (List Word)) → shown (xs ++ ys) ≡ shown xs ++ shown ys
shown-append xs ys = ap (λ (t : List (List (List ℕ))). map spaced t) (map-append (λ (ws : List Word). map word_text ws) xs ys) ∙ map-append spaced (texts_of xs) (texts_of ys)

line_part : (ws : List Word) (rest : List Line) (more : List Part) → IsFineLine ws → AreParts rest more → AreParts (spaced (map word_text ws) ∷ rest) (one_line ws ∷ more)
line_part ws rest more fine are =
    (rest, record { blank = []; line = spaced (map word_text ws); whole = refl; nothing = tt; spelled = subst (λ x. AllZip SpellsWord x ws) (sym (line_words (map word_text ws) (fine_line ws fine))) (all_spelled ws fine.1) }, are)

lines_parts : (ls : List (List Word)) (rest : List Line) (more : List Part) → AreFine ls → AreParts rest more → AreParts (shown ls ++ rest) (as_lines ls ++ more)
lines_parts [] rest more fine are = are
lines_parts (l ∷ ls) rest more fine are = line_part l (shown ls ++ rest) (as_lines ls ++ more) fine.0 (lines_parts ls rest more fine.1 are)

end_fine : IsFineLine end_line
end_fine = (omega arith, (fixed_word (codes "end") (omega arith) refl, tt))

number_fine : (w : List ℕ) (n : ℕ) → IsWord w → n < 2 ^ 64 → IsFineLine (number_line w n)
number_fine w n word lt = (omega arith, (word, (lt, tt)))

script_part : (s : Script) (rest : List Line) (more : List Part) → s.class < 2 ^ 64 → program_ok s.program ≡ true → list_all instr_ok s.program ≡ true → AreParts rest more → AreParts (shown (script_lines s) ++ rest) (script_parts s ++ more)
script_part s rest more class ok ranges are =
    let fit = program_fits s.program ok ranges in
    let inside : List Line = map spaced (map instr_words s.program) in
    let end : Line = spaced (map word_text end_line) in
    let spelled : SpellsScript inside s.program = subst (λ (x : List Line). SpellsScript x s.program) (lines_again s.program fit) (printed_spells s.program fit ok) in
    let tail : shown (map instr_line s.program ++ end_line ∷ []) ≡ inside ++ end ∷ [] = shown-append (map instr_line s.program) (end_line ∷ []) ∙ ap (λ (t : List (List (List ℕ))). map spaced t ++ end ∷ []) (instr_texts s.program) in
    let whole : shown (map instr_line s.program ++ end_line ∷ []) ++ rest ≡ inside ++ end ∷ rest = ap (λ (t : List Line). t ++ rest) tail ∙ append_assoc inside (end ∷ []) rest in
    let ends : is_end (words_of end) ≡ true = subst (λ (ws : List (List ℕ)). is_end ws ≡ true) (sym (line_words (map word_text end_line) (fine_line end_line end_fine))) refl in
    line_part (number_line (codes "script") s.class) (shown (map instr_line s.program ++ end_line ∷ []) ++ rest) (body s.program ∷ more) (number_fine (codes "script") s.class (fixed_word (codes "script") (omega arith) refl) class)
    (rest, record { inside = inside; end = end; whole = whole; goes_on = goes s.program fit; ends = ends; spelled = spelled }, are)

scripts_parts : (k : Config) (ss : List Script) (rest : List Line) (more : List Part) → length k.table ≤ 16 → list_all (script_ok k) ss ≡ true → AreParts rest more → AreParts (shown (flat_map script_lines ss) ++ rest) (flat_map script_parts ss ++ more)
scripts_parts k [] rest more few ok are = are
scripts_parts k (s ∷ ss) rest more few ok are =
    let o = and_parts (script_ok k s) (list_all (script_ok k) ss) ok in
    let a = and_parts (is_class k s.class && program_ok s.program) (list_all instr_ok s.program) o.0 in
    let b = and_parts (is_class k s.class) (program_ok s.program) a.0 in
    let later = scripts_parts k ss rest more few o.1 are in
    let one = script_part s (shown (flat_map script_lines ss) ++ rest) (flat_map script_parts ss ++ more) (omega (arith, ltb-true s.class (length k.table) b.0, few)) b.1 a.1 later in
    subst (λ (t : List Line). AreParts t (script_parts s ++ (flat_map script_parts ss ++ more))) (sym (append_assoc (shown (script_lines s)) (shown (flat_map script_lines ss)) rest) ∙ ap (λ (t : List Line). t ++ rest) (sym (shown-append (script_lines s) (flat_map script_lines ss)))) one

-- ---- the lines of a valid configuration are fine

classes_fine : (cs : List ClassEntry) (ps : List Pool) → ((i : ℕ) → i < length cs → is_name (class_at cs i).name ≡ true) → ((i : ℕ) → i < length cs → IsLabel (label_of cs i)) → list_all pool_ok ps ≡ true → AreFine (class_lines cs ps)
classes_fine [] [] named labelled ok = tt
classes_fine [] (p ∷ ps) named labelled ok = tt
classes_fine (c ∷ cs) [] named labelled ok = tt
classes_fine (c ∷ cs) (p ∷ ps) named labelled ok =
    let both = and_parts (pool_ok p) (list_all pool_ok ps) ok in
    let a = and_parts (leb p.frames 16 && leb p.pages 32) (leb p.volume 4) both.0 in
    let b = and_parts (leb p.frames 16) (leb p.pages 32) a.0 in (
      (
        omega arith,
        (
          fixed_word (codes "class") (omega arith) refl,
          (
            name_word c.name (named 0 (omega arith)),
            (
              labelled 0 (omega arith),
              (
                fixed_word (codes "frames") (omega arith) refl,
                (
                  omega (arith, leb-true _ _ b.0),
                  (fixed_word (codes "pages") (omega arith) refl, (omega (arith, leb-true _ _ b.1), (fixed_word (codes "volume") (omega arith) refl, (omega (arith, leb-true _ _ a.1), tt)))),
                ),
              ),
            ),
          ),
        ),
      ),
      classes_fine cs ps (λ i lt. named (suc i) (omega (arith, lt))) (λ i lt. labelled (suc i) (omega (arith, lt))) both.1,
    )

numbers_fine : (n : ℕ) (ns : List ℕ) → n ≤ 16 → list_all (λ c. ltb c n) ns ≡ true → AllByRecursion IsFineWord (map number ns)
numbers_fine n [] few all = tt
numbers_fine n (m ∷ ms) few all = let both = and_parts (ltb m n) (list_all (λ c. ltb c n) ms) all in (omega (arith, ltb-true m n both.0, few), numbers_fine n ms few both.1)

front_fine : (k : Config) → IsValid k → AreFine (front_lines k)
front_fine k v =
    let pools = and_parts (eqb (length k.pools) (length k.table)) (list_all pool_ok k.pools) v.pools in
    let cycle = and_parts (within 1 16 (length k.cycle)) (list_all (is_class k) k.cycle) v.cycle in
    let a = and_parts ((leb 1 k.processors && leb k.processors 4) && (leb 1 k.rounds && leb k.rounds 4096) && (leb 1 k.quantum && leb k.quantum 256)) (leb k.console 4096) v.header in
    let b = and_parts ((leb 1 k.processors && leb k.processors 4) && (leb 1 k.rounds && leb k.rounds 4096)) (leb 1 k.quantum && leb k.quantum 256) a.0 in
    let d = and_parts (leb 1 k.processors && leb k.processors 4) (leb 1 k.rounds && leb k.rounds 4096) b.0 in
    let p = leb-true _ _ (and_parts (leb 1 k.processors) (leb k.processors 4) d.0).1 in
    let r = leb-true _ _ (and_parts (leb 1 k.rounds) (leb k.rounds 4096) d.1).1 in
    let q = leb-true _ _ (and_parts (leb 1 k.quantum) (leb k.quantum 256) b.1).1 in
    let o = leb-true _ _ a.1 in
    fine_append (header_lines k) (number_lines k) (
      (omega arith, (fixed_word (codes "gemkernel") (omega arith) refl, (fixed_word (codes "1") (omega arith) refl, tt))),
      (number_fine (codes "classes") (length k.table) (fixed_word (codes "classes") (omega arith) refl) (omega (arith, v.table.few)), classes_fine k.table k.pools v.names v.table.labels pools.1),
    ) (
      number_fine (codes "processors") k.processors (fixed_word (codes "processors") (omega arith) refl) (omega (arith, p)),
      (
        (omega arith, (fixed_word (codes "cycle") (omega arith) refl, numbers_fine (length k.table) k.cycle v.table.few cycle.1)),
        (
          number_fine (codes "rounds") k.rounds (fixed_word (codes "rounds") (omega arith) refl) (omega (arith, r)),
          (
            number_fine (codes "quantum") k.quantum (fixed_word (codes "quantum") (omega arith) refl) (omega (arith, q)),
            (number_fine (codes "console") k.console (fixed_word (codes "console") (omega arith) refl) (omega (arith, o)), tt),
          ),
        ),
      ),
    )

script_there : (k : Config) (d n : ℕ) → uses_script k d n ≡ true → n < length k.scripts
script_there k d n e =
    elim (slice_get k.scripts n) as (λ o. slice_get k.scripts n ≡ o → option_map_or (λ (s : Script). is_class k s.class && at_or_below k.table s.class d) o false ≡ true → n < length k.scripts) [
      | None ↦ λ is f. absurd cc
      | Some s ↦ λ is f. slice_get_within k.scripts n s is
    ] refl e

gates_fine : (k : Config) (gs : List GateLine) → length k.table ≤ 16 → length k.scripts ≤ 32 → list_all (gate_ok k) gs ≡ true → AreFine (map gate_line gs)
gates_fine k [] few many ok = tt
gates_fine k (g ∷ gs) few many ok =
    let both = and_parts (gate_ok k g) (list_all (gate_ok k) gs) ok in
    let x = and_parts (is_class k g.class && uses_script k g.class g.script) (Rattle.rings.specs.Brackets.in_order g.brackets) both.0 in
    let y = and_parts (is_class k g.class) (uses_script k g.class g.script) x.0 in
    let z = and_parts (leb g.brackets.r1 g.brackets.r2 && leb g.brackets.r2 g.brackets.r3) (leb g.brackets.r3 7) x.1 in
    let u = and_parts (leb g.brackets.r1 g.brackets.r2) (leb g.brackets.r2 g.brackets.r3) z.0 in
    let top = leb-true _ _ z.1 in
    let mid = leb-true _ _ u.1 in
    let bot = leb-true _ _ u.0 in
    ((omega arith, (fixed_word (codes "gate") (omega arith) refl, (omega (arith, ltb-true g.class (length k.table) y.0, few), (omega (arith, script_there k g.class g.script y.1, many), (omega (arith, top, mid, bot), (omega (arith, top, mid), (omega (arith, top), tt))))))), gates_fine k gs few many both.1)

processes_fine : (k : Config) (ps : List ProcessLine) → length k.table ≤ 16 → length k.scripts ≤ 32 → k.processors ≤ 4 → list_all (process_ok k) ps ≡ true → AreFine (map process_line ps)
processes_fine k [] few many four ok = tt
processes_fine k (p ∷ ps) few many four ok =
    let o = and_parts (process_ok k p) (list_all (process_ok k) ps) ok in
    let a = and_parts (ltb p.processor k.processors && is_class k p.class && leb p.ring 7) (uses_script k p.class p.script) o.0 in
    let b = and_parts (ltb p.processor k.processors && is_class k p.class) (leb p.ring 7) a.0 in
    let d = and_parts (ltb p.processor k.processors) (is_class k p.class) b.0 in
    ((omega arith, (fixed_word (codes "process") (omega arith) refl, (omega (arith, ltb-true p.processor k.processors d.0, four), (omega (arith, ltb-true p.class (length k.table) d.1, few), (omega (arith, script_there k p.class p.script a.1, many), (omega (arith, leb-true p.ring 7 b.1), tt)))))), processes_fine k ps few many four o.1)

-- one item a line
abbrev alone : List Item → List (List Item)
alone is = map (λ i. i ∷ []) is

item_fine : (k : Config) (i : Item) → length k.table ≤ 16 → k.processors ≤ 4 → item_ok k i ≡ true → IsFineLine (group_line (i ∷ [])) × IsGroup (i ∷ []) × (item_line i ≡ group_line (i ∷ []))
item_fine k (item.Events p c n) few four ok =
    let a = and_parts (ltb p k.processors && is_class k c) (leb 1 n && leb n 4194304) ok in
    let b = and_parts (ltb p k.processors) (is_class k c) a.0 in
    let d = and_parts (leb 1 n) (leb n 4194304) a.1 in
    ((omega arith, (fixed_word (codes "events") (omega arith) refl, ((omega (arith, ltb-true p k.processors b.0, four), omega (arith, ltb-true c (length k.table) b.1, few), omega (arith, leb-true n 4194304 d.1)), tt))), tt, refl)
item_fine k (item.Mix x n) few four ok =
    let a = and_parts (ltb x 18446744073709551616) (leb 1 n && leb n 4194304) ok in
    let d = and_parts (leb 1 n) (leb n 4194304) a.1 in
    ((omega arith, (fixed_word (codes "mix") (omega arith) refl, (ltb-true x 18446744073709551616 a.0, (omega (arith, leb-true n 4194304 d.1), tt)))), tt, refl)
item_fine k (item.Sweep n) few four ok =
    let d = and_parts (leb 1 n) (leb n 4194304) ok in
    ((omega arith, (fixed_word (codes "sweep") (omega arith) refl, (omega (arith, leb-true n 4194304 d.1), tt))), tt, refl)

-- the items of a schedule
record AreFineItems (is : List Item) : Type 0 where
  fine : AreFine (map group_line (alone is))
  groups : AllByRecursion IsGroup (alone is)
  same : map item_line is ≡ map group_line (alone is)

items_fine : (k : Config) (is : List Item) → length k.table ≤ 16 → k.processors ≤ 4 → list_all (item_ok k) is ≡ true → AreFineItems is
items_fine k [] few four ok = record { fine = tt; groups = tt; same = refl }
items_fine k (i ∷ is) few four ok =
    let both = and_parts (item_ok k i) (list_all (item_ok k) is) ok in
    let one = item_fine k i few four both.0 in
    let r = items_fine k is few four both.1 in
    record { fine = (one.0, r.fine); groups = (one.1, r.groups); same = rw (one.2, r.same) refl }

flat_alone : (is : List Item) → flat_map (λ (g : List Item). g) (alone is) ≡ is
flat_alone [] = refl
flat_alone (i ∷ is) = ap (λ (t : List Item). i ∷ t) (flat_alone is)

few_processors : (k : Config) → IsValid k → k.processors ≤ 4
few_processors k v =
    let a = and_parts ((leb 1 k.processors && leb k.processors 4) && (leb 1 k.rounds && leb k.rounds 4096) && (leb 1 k.quantum && leb k.quantum 256)) (leb k.console 4096) v.header in
    let b = and_parts ((leb 1 k.processors && leb k.processors 4) && (leb 1 k.rounds && leb k.rounds 4096)) (leb 1 k.quantum && leb k.quantum 256) a.0 in
    let d = and_parts (leb 1 k.processors && leb k.processors 4) (leb 1 k.rounds && leb k.rounds 4096) b.0 in
    leb-true _ _ (and_parts (leb 1 k.processors) (leb k.processors 4) d.0).1

-- ---- all lines are lines of words

fine_texts : (ls : List (List Word)) → AreFine ls → AllByRecursion IsLineOfWords (texts_of ls)
fine_texts [] fine = tt
fine_texts (l ∷ ls) fine = (fine_line l fine.0, fine_texts ls fine.1)

texts-append : (xs ys : List (List Word)) → texts_of (xs ++ ys) ≡ texts_of xs ++ texts_of ys
texts-append xs ys = map-append (λ (ws : List Word). map word_text ws) xs ys

words_append : (xs ys : List (List (List ℕ))) → AllByRecursion IsLineOfWords xs → AllByRecursion IsLineOfWords ys → AllByRecursion IsLineOfWords (xs ++ ys)
words_append [] ys a b = b
words_append (x ∷ xs) ys a b = (a.0, words_append xs ys a.1 b)

both_words : (xs ys : List (List Word)) → AllByRecursion IsLineOfWords (texts_of xs) → AllByRecursion IsLineOfWords (texts_of ys) → AllByRecursion IsLineOfWords (texts_of (xs ++ ys))
both_words xs ys a b = subst (AllByRecursion IsLineOfWords) (sym (texts-append xs ys)) (words_append (texts_of xs) (texts_of ys) a b)

instrs_words : (is : List Instr) → AllByRecursion Fits is → AllByRecursion IsLineOfWords (texts_of (map instr_line is))
instrs_words [] fit = tt
instrs_words (i ∷ is) fit = (subst IsLineOfWords (sym (same_words i)) (line_of_words i fit.0), instrs_words is fit.1)

scripts_words : (k : Config) (ss : List Script) → length k.table ≤ 16 → list_all (script_ok k) ss ≡ true → AllByRecursion IsLineOfWords (texts_of (flat_map script_lines ss))
scripts_words k [] few ok = tt
scripts_words k (s ∷ ss) few ok =
    let o = and_parts (script_ok k s) (list_all (script_ok k) ss) ok in
    let a = and_parts (is_class k s.class && program_ok s.program) (list_all instr_ok s.program) o.0 in
    let b = and_parts (is_class k s.class) (program_ok s.program) a.0 in
    both_words (script_lines s) (flat_map script_lines ss) (
      fine_line (number_line (codes "script") s.class) (number_fine (codes "script") s.class (fixed_word (codes "script") (omega arith) refl) (omega (arith, ltb-true s.class (length k.table) b.0, few))),
      both_words (map instr_line s.program) (end_line ∷ []) (instrs_words s.program (program_fits s.program b.1 a.1)) (fine_line end_line end_fine, tt),
    )
    (scripts_words k ss few o.1)

config_words : (k : Config) → IsValid k → AllByRecursion IsLineOfWords (texts_of (config_lines k))
config_words k v =
    let four = few_processors k v in
    let items = items_fine k k.schedule v.table.few four v.items in
    both_words (front_lines k) (flat_map script_lines k.scripts ++ (map gate_line k.gates ++ (map process_line k.processes ++ (map item_line k.schedule ++ end_line ∷ [])))) (fine_texts (front_lines k) (front_fine k v))
    (both_words (flat_map script_lines k.scripts) (map gate_line k.gates ++ (map process_line k.processes ++ (map item_line k.schedule ++ end_line ∷ []))) (scripts_words k k.scripts v.table.few v.scripts)
    (both_words (map gate_line k.gates) (map process_line k.processes ++ (map item_line k.schedule ++ end_line ∷ [])) (fine_texts (map gate_line k.gates) (gates_fine k k.gates v.table.few v.few_scripts v.gates))
    (both_words (map process_line k.processes) (map item_line k.schedule ++ end_line ∷ []) (fine_texts (map process_line k.processes) (processes_fine k k.processes v.table.few v.few_scripts four v.processes))
    (both_words (map item_line k.schedule) (end_line ∷ []) (fine_texts (map item_line k.schedule) (subst AreFine (sym items.same) items.fine)) (fine_line end_line end_fine, tt)))))

shown_allowed : (ls : List (List (List ℕ))) → AllByRecursion IsLineOfWords ls → list_all all_allowed (map spaced ls) ≡ true
shown_allowed [] are = refl
shown_allowed (l ∷ ls) are = rw (line_allowed l are.0, shown_allowed ls are.1) refl

-- ---- the whole

config_shown : (k : Config) → shown (config_lines k) ≡ shown (front_lines k) ++ (shown (flat_map script_lines k.scripts) ++ (shown (map gate_line k.gates) ++ (shown (map process_line k.processes) ++ (shown (map item_line k.schedule) ++ shown (end_line ∷ [])))))
config_shown k =
    shown-append (front_lines k) (flat_map script_lines k.scripts ++ (map gate_line k.gates ++ (map process_line k.processes ++ (map item_line k.schedule ++ end_line ∷ [])))) ∙ ap (λ (t : List Line). shown (front_lines k) ++ t)
    (shown-append (flat_map script_lines k.scripts) (map gate_line k.gates ++ (map process_line k.processes ++ (map item_line k.schedule ++ end_line ∷ []))) ∙ ap (λ (t : List Line). shown (flat_map script_lines k.scripts) ++ t)
    (shown-append (map gate_line k.gates) (map process_line k.processes ++ (map item_line k.schedule ++ end_line ∷ [])) ∙ ap (λ (t : List Line). shown (map gate_line k.gates) ++ t)
    (shown-append (map process_line k.processes) (map item_line k.schedule ++ end_line ∷ []) ∙ ap (λ (t : List Line). shown (map process_line k.processes) ++ t)
    (shown-append (map item_line k.schedule) (end_line ∷ [])))))

regrouped : (k : Config) (gs : List (List Item)) → as_lines (front_lines k) ++ (flat_map script_parts k.scripts ++ (as_lines (map gate_line k.gates) ++ (as_lines (map process_line k.processes) ++ (as_lines (map group_line gs) ++ one_line end_line ∷ [])))) ≡ config_parts k gs
regrouped k gs = simp append_assoc

config_are : (k : Config) → IsValid k → AreParts (shown (config_lines k)) (config_parts k (alone k.schedule))
config_are k v =
    let four = few_processors k v in
    let items = items_fine k k.schedule v.table.few four v.items in
    let l5 = shown (map item_line k.schedule) ++ shown (end_line ∷ []) in
    let l4 = shown (map process_line k.processes) ++ l5 in
    let l3 = shown (map gate_line k.gates) ++ l4 in
    let l2 = shown (flat_map script_lines k.scripts) ++ l3 in
    let m5 : List Part = as_lines (map group_line (alone k.schedule)) ++ one_line end_line ∷ [] in
    let m4 : List Part = as_lines (map process_line k.processes) ++ m5 in
    let m3 : List Part = as_lines (map gate_line k.gates) ++ m4 in
    let m2 : List Part = flat_map script_parts k.scripts ++ m3 in
    let a5 : AreParts l5 m5 = subst (λ (x : List (List Word)). AreParts (shown x ++ shown (end_line ∷ [])) m5) (sym items.same) (lines_parts (map group_line (alone k.schedule)) (shown (end_line ∷ [])) (one_line end_line ∷ []) items.fine (line_part end_line [] [] end_fine tt)) in
    let a4 : AreParts l4 m4 = lines_parts (map process_line k.processes) l5 m5 (processes_fine k k.processes v.table.few v.few_scripts four v.processes) a5 in
    let a3 : AreParts l3 m3 = lines_parts (map gate_line k.gates) l4 m4 (gates_fine k k.gates v.table.few v.few_scripts v.gates) a4 in
    let a2 : AreParts l2 m2 = scripts_parts k k.scripts l3 m3 v.table.few v.scripts a3 in
    let a1 : AreParts (shown (front_lines k) ++ l2) (as_lines (front_lines k) ++ m2) = lines_parts (front_lines k) l2 m2 (front_fine k v) a2 in
    subst (AreParts (shown (config_lines k))) (regrouped k (alone k.schedule)) (subst (λ (t : List Line). AreParts t (as_lines (front_lines k) ++ m2)) (sym (config_shown k)) a1)

pub written_spells : (k : Config) → IsValid k → Spells (written k) k
written_spells k v =
    let words = config_words k v in
    let again : lines (written k) ≡ shown (config_lines k) = printed_lines (texts_of (config_lines k)) words in
    let items = items_fine k k.schedule v.table.few (few_processors k v) v.items in
    record {
      bytes = subst (λ (t : List Line). list_all all_allowed t ≡ true) (sym again) (shown_allowed (texts_of (config_lines k)) words);
      groups = alone k.schedule;
      are_groups = items.groups;
      schedule = flat_alone k.schedule;
      parts = subst (λ (t : List Line). AreParts t (config_parts k (alone k.schedule))) (sym again) (config_are k v);
      valid = v;
    }

pub text_spells : (text : List ℕ) (k : Config) → text ≡ written k → IsValid k → Spells text k
text_spells text k e v = subst (λ (t : List ℕ). Spells t k) (sym e) (written_spells k v)

pub pools_same : (k : Config) → IsValid k → length k.pools ≡ length k.table
pools_same k v = eqb-true (length k.pools) (length k.table) (and_parts (eqb (length k.pools) (length k.table)) (list_all pool_ok k.pools) v.pools).0

pub ruleset printing = (text_spells, pools_same)

pub ruleset laws = (written_spells)
