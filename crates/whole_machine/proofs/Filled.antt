-- One more script or gate.
use Rattle.std.proofs.Common.{ℕ, zero, suc, ◌≡◌, ◌<◌, ◌≤◌, ◌⊎◌, inl, inr, List, [], ◌∷◌, ◌++◌, get_or, length, sym, subst, arith, Option, Some, None}
use Rattle.std.specs.Prelude.{Result, Ok, Err, IfOk, OnErr}
use Rattle.std.specs.declared.alloc.AllocError.{AllocError}
use Rattle.std.proofs.lemmas.List.{length-append}
use Rattle.class_model.specs.Config.{Shared, Script, Gate}
use Rattle.class_model.specs.Shared.{IsShared, IsScript, IsGate}

last_read : {X : Type 0} (xs : List (Option X)) (x : Option X) (i : ℕ) (y : X) → get_or (xs ++ x ∷ []) i None ≡ Some y → (get_or xs i None ≡ Some y) ⊎ (x ≡ Some y)
last_read [] x zero y h = inr h
last_read [] x (suc i) y h = absurd (cc)
last_read (z ∷ xs) x zero y h = inl h
last_read (z ∷ xs) x (suc i) y h = last_read xs x i y h

kept_read : {X : Type 0} (xs : List (Option X)) (x : Option X) (i : ℕ) (y : X) → get_or xs i None ≡ Some y → get_or (xs ++ x ∷ []) i None ≡ Some y
kept_read [] x i y h = absurd (cc)
kept_read (z ∷ xs) x zero y h = h
kept_read (z ∷ xs) x (suc i) y h = kept_read xs x i y h

more : {X : Type 0} (xs : List X) (x : X) → length xs < 32 → length (xs ++ x ∷ []) ≤ 32
more xs x few = simp length-append (omega arith)

pub script_added : (s : Shared) (x : Option Script) → IsShared s → length s.scripts < 32 → ((y : Script) → x ≡ Some y → IsScript s y) → IsShared (record s { scripts = s.scripts ++ x ∷ [] })
script_added s x is few new = record {
  pools = is.pools;
  frames = is.frames;
  pages = is.pages;
  console = is.console;
  scripts = more s.scripts x few;
  gates = is.gates;
  script = λ place y h. elim (last_read s.scripts x place y h) [
    | inl e ↦ (let k = is.script place y e in record { class = k.class; program = k.program })
    | inr e ↦ (let k = new y e in record { class = k.class; program = k.program })
  ];
  gate = λ place y h. (let k = is.gate place y h in
      record { class = k.class; script = record { script = k.script.script; there = kept_read s.scripts x y.script k.script.script k.script.there; flows_up = k.script.flows_up } });
}

pub gate_added : (s : Shared) (x : Option Gate) → IsShared s → length s.gates < 32 → ((y : Gate) → x ≡ Some y → IsGate s y) → IsShared (record s { gates = s.gates ++ x ∷ [] })
gate_added s x is few new = record {
  pools = is.pools;
  frames = is.frames;
  pages = is.pages;
  console = is.console;
  scripts = is.scripts;
  gates = more s.gates x few;
  script = λ place y h. (let k = is.script place y h in record { class = k.class; program = k.program });
  gate = λ place y h. elim (last_read s.gates x place y h) [
    | inl e ↦ (let k = is.gate place y e in record { class = k.class; script = record { script = k.script.script; there = k.script.there; flows_up = k.script.flows_up } })
    | inr e ↦ (let k = new y e in record { class = k.class; script = record { script = k.script.script; there = k.script.there; flows_up = k.script.flows_up } })
  ];
}

-- whether there was memory for it or not
pub script_tried : (s : Shared) (x : Option Script) (ys : List (Option Script)) (r : Result (Unit {0}) AllocError) → IsShared s → length s.scripts < 32 →
    ((y : Script) → x ≡ Some y → IsScript s y) → IfOk r (λ _. ys ≡ s.scripts ++ x ∷ []) → OnErr r (ys ≡ s.scripts) → IsShared (record s { scripts = ys })
script_tried s x ys (Ok v) is few new ok err = subst (λ (zs : List (Option Script)). IsShared (record s { scripts = zs })) (sym ok) (script_added s x is few new)
script_tried s x ys (Err e) is few new ok err = subst (λ (zs : List (Option Script)). IsShared (record s { scripts = zs })) (sym err) is

pub gate_tried : (s : Shared) (x : Option Gate) (ys : List (Option Gate)) (r : Result (Unit {0}) AllocError) → IsShared s → length s.gates < 32 →
    ((y : Gate) → x ≡ Some y → IsGate s y) → IfOk r (λ _. ys ≡ s.gates ++ x ∷ []) → OnErr r (ys ≡ s.gates) → IsShared (record s { gates = ys })
gate_tried s x ys (Ok v) is few new ok err = subst (λ (zs : List (Option Gate)). IsShared (record s { gates = zs })) (sym ok) (gate_added s x is few new)
gate_tried s x ys (Err e) is few new ok err = subst (λ (zs : List (Option Gate)). IsShared (record s { gates = zs })) (sym err) is
