use Rattle.std.proofs.Common.{◌<◌, ◌/◌, ◌+◌, ◌%◌, ◌^◌, ℕ, List, length, sym, ap, subst, refl, ◌∙◌}
use Rattle.words_layout.specs.declared.op.Op.TheVariants.{Load, Store, Add}
use Rattle.words_layout.specs.Ops.{IsWithin}
use Rattle.shared_words.specs.Ports.{Opened}
use Rattle.shared_words.proofs.Orders.{set_own}
use Rattle.shared_words.proofs.Steps.{performs, in_words}
use Rattle.shared_words.proofs.shared.SharedWords.perform.Goals as goal

pub load-requires : goal.load-requires
load-requires c =
    let key : List ℕ = c.self.inside.table.shared.key in
    let a = subst (λ (o : Opened). IsWithin (length o.words / 34869) c.args.op) (sym c.self.view_is) c.requires.within in
    let b : c.in-Load.addr.0 < c.self.inside.table.shared.table_id.words = in_words _ _ _ c.self.invariant.0 (subst (IsWithin (length key / 34869)) c.in-Load.is a) in (
      c.requires.table ∙ ap (λ (o : Opened). o.table) (sym c.self.view_is),
      b,
      performs key c.self.inside.table.shared.table_id.slots c.args.seat.now.id c.in-Load.addr.0 c.args.seat.now.me (Load c.in-Load.addr) (λ n. n) (λ n. n) c.requires.holds
          (λ ws. set_own ws c.in-Load.addr.0 0) (λ ws. refl),
    )

pub store-requires : goal.store-requires
store-requires c =
    let key : List ℕ = c.self.inside.table.shared.key in
    let a = subst (λ (o : Opened). IsWithin (length o.words / 34869) c.args.op) (sym c.self.view_is) c.requires.within in
    let b : c.in-Store.addr.0 < c.self.inside.table.shared.table_id.words = in_words _ _ _ c.self.invariant.0 (subst (IsWithin (length key / 34869)) c.in-Store.is a) in (
      c.requires.table ∙ ap (λ (o : Opened). o.table) (sym c.self.view_is),
      b,
      performs key c.self.inside.table.shared.table_id.slots c.args.seat.now.id c.in-Store.addr.0 c.args.seat.now.me (Store c.in-Store.addr c.in-Store.x) (λ n. c.in-Store.x) (λ n. 0) c.requires.holds
          (λ ws. refl) (λ ws. refl),
    )

pub fetch_add-requires : goal.fetch_add-requires
fetch_add-requires c =
    let key : List ℕ = c.self.inside.table.shared.key in
    let a = subst (λ (o : Opened). IsWithin (length o.words / 34869) c.args.op) (sym c.self.view_is) c.requires.within in
    let b : c.in-Add.addr.0 < c.self.inside.table.shared.table_id.words = in_words _ _ _ c.self.invariant.0 (subst (IsWithin (length key / 34869)) c.in-Add.is a) in (
      c.requires.table ∙ ap (λ (o : Opened). o.table) (sym c.self.view_is),
      b,
      performs key c.self.inside.table.shared.table_id.slots c.args.seat.now.id c.in-Add.addr.0 c.args.seat.now.me (Add c.in-Add.addr c.in-Add.x) (λ n. (n + c.in-Add.x) % 2 ^ 64) (λ n. n) c.requires.holds
          (λ ws. refl) (λ ws. refl),
    )
