-- The words from left to right have a plan just where the list is accepted.
use Rattle.std.proofs.Common.{◌≡◌, ℕ, ◌≤◌, ◌<◌, ◌^◌, Bool, true, false, cond, List, [], ◌∷◌, Option, Some, None, Result, Ok, Err, refl, sym, ap, subst, inl, inr, ◌∙◌, arith}
use Rattle.std.specs.Prelude.{◌↔◌, ◌⊎◌, codes, nat_le}
use Rattle.std.specs.List.{list_any}
use Rattle.std.specs.Str.{bytes_eq}
use Rattle.std.proofs.lemmas.Slice.Eq.{bytes_eq-Decides}
use Rattle.std.proofs.lemmas.Str.Parse.{digit_from_value}
use Rattle.text_lines.specs.declared.decimal.NumberFault.{NumberFault}
use Rattle.text_lines.specs.declared.decimal.NumberFault.TheVariants.{Spelling, Large as TooLarge}
use Rattle.text_lines.specs.Number.{IsNumber, IsNumberAnswer, number_of}
use Rattle.text_lines.proofs.Numbers.{number_answer}
use Rattle.command_words.specs.declared.command.Command.{Command}
use Rattle.command_words.specs.declared.command.Command.TheVariants as command
use Rattle.command_words.specs.declared.asked.Plan.{Plan}
use Rattle.command_words.specs.declared.asked.Plan.TheVariants.{Sim, Run, Show, View, Large, Audit, Guard, Save, Restore}
use Rattle.command_words.specs.declared.asked.PlanError.{PlanError}
use Rattle.command_words.specs.declared.asked.PlanError.TheVariants.{Fault}
use Rattle.command_words.specs.Words.{Accepts, AreNumbered, command_of, up_to, number_up_to, is_option, last_class, last_number}
use Rattle.command_words.specs.Reading.{ended, number_ended, number_alone, with_number, planned, planned_where_known, plan_of}

-- ---- numbers

-- a number begins with a digit
no_option : (w : List ℕ) (n : ℕ) → IsNumber w n → is_option w ≡ false
no_option [] n is = let some = is.digits.0 in absurd (omega arith)
no_option (c ∷ cs) n is = let d = digit_from_value c is.digits.1.0 in grind arith

same_number : (w : List ℕ) (n m : ℕ) → IsNumber w n → IsNumber w m → n ≡ m
same_number w n m a b = sym a.value ∙ b.value

within : (greatest m n : ℕ) → m ≡ n → n ≤ greatest → cond (nat_le m greatest) (Some m) None ≡ Some n
within greatest m n e le = grind arith

up_to_is : (greatest n : ℕ) (r : Result ℕ NumberFault) (w : List ℕ) → IsNumber w n → n ≤ greatest → greatest < 2 ^ 64 → IsNumberAnswer w r → up_to greatest r ≡ Some n
up_to_is greatest n (Ok m) w is le lt answer = within greatest m n (same_number w m n answer.0 is) le
up_to_is greatest n (Err TooLarge) w is le lt answer = let e : n ≡ answer.0 = same_number w n answer.0 is answer.1 in let big = answer.2 in absurd (omega arith)
up_to_is greatest n (Err Spelling) w is le lt answer = absurd (answer n is)

number_is : (greatest n : ℕ) (w : List ℕ) → IsNumber w n → n ≤ greatest → greatest < 2 ^ 64 → number_up_to greatest w ≡ Some n
number_is greatest n w is le lt = up_to_is greatest n (number_of w) w is le lt (number_answer w)

up_to_from : (greatest n : ℕ) (r : Result ℕ NumberFault) (w : List ℕ) → IsNumberAnswer w r → up_to greatest r ≡ Some n → IsNumber w n × (n ≤ greatest)
up_to_from greatest n (Ok m) w answer e = let found = within_from greatest m n e in (subst (IsNumber w) found.0 answer.0, found.1)
  where
    within_from : (greatest m n : ℕ) → cond (nat_le m greatest) (Some m) None ≡ Some n → (m ≡ n) × (n ≤ greatest)
    within_from greatest m n e = grind arith
up_to_from greatest n (Err why) w answer e = absurd cc

-- ---- an accepted list has its plan

shaped : (plan : ℕ → Plan) (dash : Bool) (m : Option ℕ) (n : ℕ) → dash ≡ false → m ≡ Some n → cond dash (Err (Fault 1)) (with_number plan (number_ended [] m)) ≡ Ok (plan n)
shaped plan dash m n d e = rw (d, e) refl

view_is : (w : List ℕ) (n : ℕ) → IsNumber w n → n ≤ last_class → plan_of (codes "view" ∷ w ∷ []) ≡ Ok (View n)
view_is w n is le = shaped (λ k. View k) (list_any is_option (codes "view" ∷ w ∷ [])) (number_up_to last_class w) n (rw (no_option w n is) refl) (number_is last_class n w is le (omega arith))

large_is : (w : List ℕ) (n : ℕ) → IsNumber w n → n ≤ last_number → plan_of (codes "large" ∷ w ∷ []) ≡ Ok (Large n)
large_is w n is le = shaped (λ k. Large k) (list_any is_option (codes "large" ∷ w ∷ [])) (number_up_to last_number w) n (rw (no_option w n is) refl) (number_is last_number n w is le (omega arith))

audit_is : (w : List ℕ) (n : ℕ) → IsNumber w n → n ≤ last_class → plan_of (codes "audit" ∷ w ∷ []) ≡ Ok (Audit n)
audit_is w n is le = shaped (λ k. Audit k) (list_any is_option (codes "audit" ∷ w ∷ [])) (number_up_to last_class w) n (rw (no_option w n is) refl) (number_is last_class n w is le (omega arith))

planned_of : (words : List (List ℕ)) (p : Plan) → Accepts words p → plan_of words ≡ Ok p
planned_of words Sim e = ap plan_of e
planned_of words Run e = ap plan_of e
planned_of words Show e = ap plan_of e
planned_of words (View n) a = ap plan_of a.list ∙ view_is a.number n a.spells a.within
planned_of words (Large n) a = ap plan_of a.list ∙ large_is a.number n a.spells a.within
planned_of words (Audit n) a = ap plan_of a.list ∙ audit_is a.number n a.spells a.within
planned_of words Guard e = ap plan_of e
planned_of words Save e = ap plan_of e
planned_of words Restore e = ap plan_of e

-- ---- a plan comes of an accepted list alone

-- the word of a command
abbrev word_of : Command → List ℕ
word_of command.Sim = codes "sim"
word_of command.Run = codes "run"
word_of command.Show = codes "show"
word_of command.View = codes "view"
word_of command.Large = codes "large"
word_of command.Audit = codes "audit"
word_of command.Guard = codes "guard"
word_of command.Save = codes "save"
word_of command.Restore = codes "restore"

-- the word is that of a command, or the command comes of the tests behind
this_or_later : (w : List ℕ) (x c : Command) (later : Option Command) → cond (bytes_eq w (word_of x)) (Some x) later ≡ Some c → (w ≡ word_of c) ⊎ (later ≡ Some c)
this_or_later w x c later =
    elim (bytes_eq w (word_of x)) as (λ t. bytes_eq w (word_of x) ≡ t → cond t (Some x) later ≡ Some c → (w ≡ word_of c) ⊎ (later ≡ Some c)) [
      | true ↦ λ is e. let same : x ≡ c = cc in inl ((bytes_eq-Decides w (word_of x)).0 is ∙ ap word_of same)
      | false ↦ λ is e. inr e
    ] refl

or_later : (w : List ℕ) (c : Command) (later : Option Command) → (w ≡ word_of c) ⊎ (later ≡ Some c) → (later ≡ Some c → w ≡ word_of c) → w ≡ word_of c
or_later w c later (inl e) f = e
or_later w c later (inr e) f = f e

word_is : (w : List ℕ) (c : Command) → command_of w ≡ Some c → w ≡ word_of c
word_is w c e0 =
    or_later w c _ (this_or_later w command.Sim c _ e0) (λ e1.
    or_later w c _ (this_or_later w command.Run c _ e1) (λ e2.
    or_later w c _ (this_or_later w command.Show c _ e2) (λ e3.
    or_later w c _ (this_or_later w command.View c _ e3) (λ e4.
    or_later w c _ (this_or_later w command.Large c _ e4) (λ e5.
    or_later w c _ (this_or_later w command.Audit c _ e5) (λ e6.
    or_later w c _ (this_or_later w command.Guard c _ e6) (λ e7.
    or_later w c _ (this_or_later w command.Save c _ e7) (λ e8.
    or_later w c _ (this_or_later w command.Restore c _ e8) (λ e9. absurd cc)))))))))

-- a command without a number
alone_from : (command w : List ℕ) (plan p : Plan) (rest : List (List ℕ)) → w ≡ command → ended plan rest ≡ Ok p → (w ∷ rest ≡ command ∷ []) × (plan ≡ p)
alone_from command w plan p [] same e = (ap (λ (x : List ℕ). x ∷ []) same, cc)
alone_from command w plan p (x ∷ more) same e = absurd cc

-- the number behind a command
record Numbered (w command : List ℕ) (rest : List (List ℕ)) (greatest : ℕ) (plan : ℕ → Plan) (p : Plan) : Type 0 where
  n : ℕ
  words : AreNumbered (w ∷ rest) command greatest n
  is : plan n ≡ p

ended_from : (w command word : List ℕ) (more : List (List ℕ)) (greatest : ℕ) (plan : ℕ → Plan) (p : Plan) (m : Option ℕ) → w ≡ command → number_up_to greatest word ≡ m → with_number plan (number_ended more m) ≡ Ok p → Numbered w command (word ∷ more) greatest plan p
ended_from w command word more greatest plan p None same is e = absurd cc
ended_from w command word (x ∷ more) greatest plan p (Some n) same is e = absurd cc
ended_from w command word [] greatest plan p (Some n) same is e =
    let found = up_to_from greatest n (number_of word) word (number_answer word) is in
    record { n = n; words = record { number = word; list = ap (λ (x : List ℕ). x ∷ word ∷ []) same; spells = found.0; within = found.1 }; is = cc }

numbered_from : (w command : List ℕ) (rest : List (List ℕ)) (greatest : ℕ) (plan : ℕ → Plan) (p : Plan) → w ≡ command → with_number plan (number_alone greatest rest) ≡ Ok p → Numbered w command rest greatest plan p
numbered_from w command [] greatest plan p same e = absurd cc
numbered_from w command (word ∷ more) greatest plan p same e = ended_from w command word more greatest plan p (number_up_to greatest word) same refl e

module _ (w : List ℕ) (rest : List (List ℕ)) (p : Plan) where
  alone_accepts : (command : List ℕ) (plan : Plan) → w ≡ command → ended plan rest ≡ Ok p → ((w ∷ rest ≡ command ∷ []) → Accepts (w ∷ rest) plan) → Accepts (w ∷ rest) p
  alone_accepts command plan same e made = let found = alone_from command w plan p rest same e in subst (Accepts (w ∷ rest)) found.1 (made found.0)

  numbered_accepts : (command : List ℕ) (greatest : ℕ) (plan : ℕ → Plan) → w ≡ command → with_number plan (number_alone greatest rest) ≡ Ok p → ((n : ℕ) → AreNumbered (w ∷ rest) command greatest n → Accepts (w ∷ rest) (plan n)) → Accepts (w ∷ rest) p
  numbered_accepts command greatest plan same e made = let found = numbered_from w command rest greatest plan p same e in subst (Accepts (w ∷ rest)) found.is (made found.n found.words)

  accepts_known : (c : Command) → w ≡ word_of c → planned c rest ≡ Ok p → Accepts (w ∷ rest) p
  accepts_known command.Sim same e = alone_accepts (codes "sim") Sim same e (λ h. h)
  accepts_known command.Run same e = alone_accepts (codes "run") Run same e (λ h. h)
  accepts_known command.Show same e = alone_accepts (codes "show") Show same e (λ h. h)
  accepts_known command.View same e = numbered_accepts (codes "view") last_class (λ n. View n) same e (λ n h. h)
  accepts_known command.Large same e = numbered_accepts (codes "large") last_number (λ n. Large n) same e (λ n h. h)
  accepts_known command.Audit same e = numbered_accepts (codes "audit") last_class (λ n. Audit n) same e (λ n h. h)
  accepts_known command.Guard same e = alone_accepts (codes "guard") Guard same e (λ h. h)
  accepts_known command.Save same e = alone_accepts (codes "save") Save same e (λ h. h)
  accepts_known command.Restore same e = alone_accepts (codes "restore") Restore same e (λ h. h)

  accepts_where_known : (c : Option Command) → command_of w ≡ c → planned_where_known c rest ≡ Ok p → Accepts (w ∷ rest) p
  accepts_where_known None is e = absurd cc
  accepts_where_known (Some c) is e = accepts_known c (word_is w c is) e

no_dash : (dash : Bool) (r : Result Plan PlanError) (p : Plan) → cond dash (Err (Fault 1)) r ≡ Ok p → r ≡ Ok p
no_dash true r p e = absurd cc
no_dash false r p e = e

accepts_of : (words : List (List ℕ)) (p : Plan) → plan_of words ≡ Ok p → Accepts words p
accepts_of [] p e = absurd cc
accepts_of (w ∷ rest) p e = accepts_where_known w rest p (command_of w) refl (no_dash (list_any is_option (w ∷ rest)) (planned_where_known (command_of w) rest) p e)

-- the answer is this plan just where the list is accepted for it
pub accepted : (words : List (List ℕ)) (p : Plan) → (plan_of words ≡ Ok p) ↔ Accepts words p
accepted words p = (accepts_of words p, planned_of words p)
