-- What holds behind the header while the lines are read, and the parts that they spell.
use Rattle.std.proofs.Common.{◌≡◌, ℕ, suc, ◌+◌, ◌*◌, ◌<◌, ◌≤◌, Bool, true, false, not, cond, eqb, ltb, leb, ◌&&◌, ◌||◌, List, [], ◌∷◌, ◌++◌, length, Option, Some, None, refl, sym, ap, subst, ◌∙◌, append_assoc, arith, inl, inr}
use Rattle.std.specs.Prelude.{codes, map, count_by}
use Rattle.std.specs.List.{AllZip, AllByRecursion, list_all, sum_by, flat_map}
use Rattle.std.proofs.lemmas.Bool.{and_parts, and_from}
use Rattle.std.proofs.lemmas.List.{append-nil, map_push, map-append, length_push}
use Rattle.std.proofs.lemmas.List.Sums.{sum_by-append, sum_by-cons}
use Rattle.std.proofs.lemmas.Grind.{flat_map-append}
use Rattle.config_text.specs.declared.config.Script.{Script}
use Rattle.config_text.specs.declared.config.GateLine.{GateLine}
use Rattle.config_text.specs.declared.config.ProcessLine.{ProcessLine}
use Rattle.config_text.specs.declared.config.Item.{Item}
use Rattle.config_text.specs.declared.config.Config.{Config}
use Rattle.config_text.specs.declared.stage.Stage.{Stage}
use Rattle.config_text.specs.declared.stage.Stage.TheVariants as stage
use Rattle.config_text.specs.Written.{Word, gate_line, process_line, front_lines}
use Rattle.config_text.specs.Valid.{IsValid, events_of, processes_of}
use Rattle.config_text.specs.Place.{Place, config_in}
use Rattle.config_text.specs.Rules.{Text, may_stand}
use Rattle.config_text.proofs.BodyLine.{IsBody}
use Rattle.config_text.specs.Text.{SpellsWord, Part, one_line, IsGroup, group_line, script_parts, as_lines, body_parts}

-- what a stage says of the lists that come later, with the groups of the schedule
abbrev pub IsEmptyBehind : Stage → Place → List (List Item) → Type 0
IsEmptyBehind stage.Scripts p gs = (p.gates ≡ []) × (p.processes ≡ []) × (gs ≡ [])
IsEmptyBehind stage.Gates p gs = (p.processes ≡ []) × (gs ≡ [])
IsEmptyBehind stage.Processes p gs = gs ≡ []
IsEmptyBehind _ p gs = Unit {0}

-- a place behind the header, where the schedule stands in these groups
pub record IsGood (p : Place) (gs : List (List Item)) : Type 0 where
  pub inside : p.inside ≡ None
  pub valid : IsValid (config_in p)
  pub used : p.used ≡ sum_by (events_of (config_in p)) p.schedule
  pub schedule : flat_map (λ g. g) gs ≡ p.schedule
  pub groups : AllByRecursion IsGroup gs
  pub empty : IsEmptyBehind p.stage p gs

-- The line spells one part more, and leaves a good place.
pub record Adds (p : Place) (gs : List (List Item)) (q : Place) (ws : List Text) : Type 0 where
  pub groups : List (List Item)
  pub items : List Word
  pub spelled : AllZip SpellsWord ws items
  pub grown : body_parts (config_in q) groups ≡ body_parts (config_in p) gs ++ one_line items ∷ []
  pub good : IsGood q groups
  pub front : front_lines (config_in q) ≡ front_lines (config_in p)
  pub stays : IsBody q.stage

-- ---- lists

pub all_push : {X : Type 0} (f : X → Bool) (xs : List X) (x : X) → list_all f xs ≡ true → f x ≡ true → list_all f (xs ++ x ∷ []) ≡ true
all_push f [] x all here = and_from (f x) true here refl
all_push f (y ∷ ys) x all here = let both = and_parts (f y) (list_all f ys) all in and_from (f y) (list_all f (ys ++ x ∷ [])) both.0 (all_push f ys x both.1 here)

pub all_append : {X : Type 0} (f : X → Bool) (xs ys : List X) → list_all f xs ≡ true → list_all f ys ≡ true → list_all f (xs ++ ys) ≡ true
all_append f [] ys a b = b
all_append f (x ∷ xs) ys a b = let both = and_parts (f x) (list_all f xs) a in and_from (f x) (list_all f (xs ++ ys)) both.0 (all_append f xs ys both.1 b)

pub sum_one : {X : Type 0} (f : X → ℕ) (xs : List X) (x : X) → sum_by f (xs ++ x ∷ []) ≡ sum_by f xs + f x
sum_one f xs x =
    let none : sum_by f [] ≡ 0 = refl in
    omega (arith, sum_by-append f xs (x ∷ []), sum_by-cons f x [], none)

pub groups_push : (gs : List (List Item)) (g : List Item) → AllByRecursion IsGroup gs → IsGroup g → AllByRecursion IsGroup (gs ++ g ∷ [])
groups_push [] g all is = (is, tt)
groups_push (h ∷ hs) g all is = (all.0, groups_push hs g all.1 is)

-- one line more of a kind
pub lines_push : {X : Type 0} (f : X → List Word) (xs : List X) (x : X) → as_lines (map f (xs ++ x ∷ [])) ≡ as_lines (map f xs) ++ one_line (f x) ∷ []
lines_push f xs x = ap as_lines (map_push f xs x) ∙ map_push one_line (map f xs) (f x)

pub scripts_push : (ss : List Script) (s : Script) → flat_map script_parts (ss ++ s ∷ []) ≡ flat_map script_parts ss ++ script_parts s
scripts_push ss s = flat_map-append script_parts ss (s ∷ []) ∙ ap (λ (x : List Part). flat_map script_parts ss ++ x) (append-nil (script_parts s))

-- the parts with nothing behind
pub last_gates : (s g : List Part) (x : Part) → s ++ ((g ++ x ∷ []) ++ ([] ++ [])) ≡ (s ++ (g ++ ([] ++ []))) ++ x ∷ []
last_gates s g x = simp (append_assoc, append-nil)

pub last_processes : (s g p : List Part) (x : Part) → s ++ (g ++ ((p ++ x ∷ []) ++ [])) ≡ (s ++ (g ++ (p ++ []))) ++ x ∷ []
last_processes s g p x = simp (append_assoc, append-nil)

pub last_items : (s g p i : List Part) (x : Part) → s ++ (g ++ (p ++ (i ++ x ∷ []))) ≡ (s ++ (g ++ (p ++ i))) ++ x ∷ []
last_items s g p i x = simp append_assoc

pub last_scripts : (s x : List Part) → (s ++ x) ++ ([] ++ ([] ++ [])) ≡ (s ++ ([] ++ ([] ++ []))) ++ x
last_scripts s x = simp (append_assoc, append-nil)

-- ---- counts of processes

pub count_push : (f : ProcessLine → Bool) (xs : List ProcessLine) (x : ProcessLine) → count_by f (xs ++ x ∷ []) ≡ count_by f xs + cond (f x) 1 0
count_push f xs x = sum_one (λ y. cond (f y) 1 0) xs x
