-- Steps of a list of names, one by one; and the law of mailboxes for what they leave.
use Rattle.std.proofs.Common.{ℕ, ◌+◌, ◌<◌, ◌≤◌, ◌^◌, List, [], ◌∷◌, ◌++◌, ◌≡◌, refl, sym, ap, subst, ◌∙◌, take, get_or, length, true, Result, Ok, Err, OnErr, arith}
use Rattle.std.proofs.lemmas.List.{take_more, length-take}
use Rattle.std.proofs.lemmas.Option.{slice_get-get_or}
use Rattle.class_model.specs.Process.{ProcName}
use Rattle.class_model.specs.State.{State}
use Rattle.class_model.specs.Step.{step, deed}
use Rattle.class_model.specs.Run.{steps, run}
use Rattle.whole_machine.specs.Steps.{step_takes}
use Rattle.mailbox_laws.specs.Mail.{MailArrives, HoldsPrefixes}
use Rattle.mailbox.specs.Ran.{Arrives, StopsAt}

steps_then : (a : State) (xs : List ProcName) (n : ProcName) → steps a (xs ++ n ∷ []) ≡ step (steps a xs) n
steps_then a [] n = refl
steps_then a (x ∷ xs) n = steps_then (step a x) xs n

-- one name more
pub steps_next : (a : State) (names : List ProcName) (i : ℕ) (d : ProcName) → i < length names → steps a (take (i + 1) names) ≡ step (steps a (take i names)) (get_or names i d)
steps_next a names i d low = ap (steps a) (take_more names i d low) ∙ steps_then a (take i names) (get_or names i d)

pub arrives : MailArrives → (old new : State) (names : List ProcName) → length names ≤ 2 ^ 64 → new ≡ steps old names → Arrives old names new
arrives law old new names few is k u valid opens only =
    let after : new ≡ run k names = is ∙ ap (λ z. steps z names) opens in
    subst (HoldsPrefixes k u _) (sym after) (law k names u valid few only)

pub stops : MailArrives → (old new : State) (names : List ProcName) (i : ℕ) (d : ProcName) → length names ≤ 2 ^ 64 → i < length names → new ≡ steps old (take i names) → step_takes (deed new (get_or names i d)) ≡ true → StopsAt old names new
stops law old new names i d few low is takes = record {
  count = i;
  name = get_or names i d;
  next = slice_get-get_or names i d low;
  state = is;
  takes = takes;
  mail = arrives law old new (take i names) (let l = length-take i names in omega (arith, l, few)) is;
}

pub on_err : {A E : Type 0} (P : Type 0) → (r : Result A E) → P → OnErr r P
on_err P (Ok x) p = tt
on_err P (Err e) p = p
