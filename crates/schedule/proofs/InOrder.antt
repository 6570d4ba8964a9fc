-- The loop over all items, how many events they come to, and their ranges.
use Rattle.std.proofs.Common.{◌≡◌, ℕ, zero, suc, ◌+◌, ◌-◌, ◌*◌, ◌<◌, ◌≤◌, List, [], ◌∷◌, ◌++◌, length, get_or, drop, replicate, map, refl, ap, sym, ◌∙◌, subst, arith, append_assoc, append-nil, length-append, true}
use Rattle.std.specs.List.{list_all, sum_by, flat_map}
use Rattle.std.specs.Prelude.{All}
use Rattle.std.proofs.lemmas.List.{drop_more, drop_all}
use Rattle.std.proofs.lemmas.List.Sums.{sum_by-cons, sum_by-drop_more}
use Rattle.words_layout.specs.declared.op.Event.{Event}
use Rattle.config_text.specs.declared.config.Config.{Config}
use Rattle.config_text.specs.declared.config.Item.{Item}
use Rattle.words_layout.specs.Sizes.{max_events}
use Rattle.config_text.specs.Valid.{IsValid, events_of as item_total}
use Rattle.schedule.specs.Schedule.{shape_of, scheduled, events_of}
use Rattle.schedule.proofs.Ranges.{some_processors}

-- a loop has taken the first i items: what is still to be listed comes to the same
pub record Listing (k : Config) (i : ℕ) (items : List Item) (place : ℕ) (listed : List Event) : Type 0 where
  pub same : listed ++ scheduled (shape_of k) place (drop i items) ≡ events_of k
  pub room : place + sum_by (item_total k) (drop i items) ≤ max_events

-- the next item fits
pub item_room : (k : Config) (i : ℕ) (items : List Item) (d : Item) (place : ℕ) (listed : List Event) → Listing k i items place listed → i < length items →
    place + item_total k (get_or items i d) ≤ max_events
item_room k i items d place listed l inside =
    let total = sum_by-drop_more (item_total k) items i d inside in
    let room = l.room in omega (arith, total, room)

pub item_on : (k : Config) (i : ℕ) (items : List Item) (d : Item) (place next : ℕ) (listed after : List Event) → Listing k i items place listed → i < length items →
    ((rest : List Item) → after ++ scheduled (shape_of k) next rest ≡ listed ++ scheduled (shape_of k) place (get_or items i d ∷ rest)) →
    next ≤ place + item_total k (get_or items i d) → Listing k (i + 1) items next after
item_on k i items d place next listed after l inside same far =
    let total = sum_by-drop_more (item_total k) items i d inside in
    let room = l.room in
    record {
      same = same (drop (i + 1) items) ∙ (ap (λ (xs : List Item). listed ++ scheduled (shape_of k) place xs) (sym (drop_more items i d inside)) ∙ l.same);
      room = omega (arith, total, room, far);
    }

pub items_begin : (k : Config) (items : List Item) (listed : List Event) → IsValid k → items ≡ k.schedule → listed ≡ [] → Listing k 0 items 0 listed
items_begin k items listed valid whole none =
    let few = valid.few_events in
    rw (whole, none) (record { same = refl; room = omega (arith, few) })

pub items_end : (k : Config) (i : ℕ) (items : List Item) (place : ℕ) (listed : List Event) → Listing k i items place listed → length items ≤ i → listed ≡ events_of k
items_end k i items place listed l over =
    let none : drop i items ≡ [] = drop_all i items over in
    sym (append-nil listed) ∙ (ap (λ (xs : List Item). listed ++ scheduled (shape_of k) place xs) (sym none) ∙ l.same)
