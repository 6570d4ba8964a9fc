use Rattle.std.proofs.Common.{ℕ, ◌≡◌, ◌≤◌, ◌+◌, ◌-◌, ◌∙◌, ap, sym, arith, get_or}
use Rattle.whole_machine.specs.Pools.{under}
use Rattle.whole_machine.proofs.Tallies.{few, elsewhere, there, bit, byte_bit, small, in_place}
use Rattle.whole_machine.proofs.tally.recount.Goals as goal
use Rattle.whole_machine.proofs.tally.recount.Goals.{then-mentor-ge16-via-then-mentor-ge16, then-mentor-ge16-via-else-mentor-ge16+then-seg-ge-SERIAL_LIMIT}

pub returns-then-mentor-ge16 : goal.returns-then-mentor-ge16
returns-then-mentor-ge16 c p r change counts m lt =
    let u = c.args.seg in
    counts m lt ∙ sym (elsewhere p r u c.args.was c.args.now change m (λ e. (let e : m ≡ u.mentor = e in elim c.then-mentor-ge16.branch [
      | then-mentor-ge16-via-then-mentor-ge16 w ↦ omega (arith, w.if-mentor-ge16.true, e, lt)
      | then-mentor-ge16-via-else-mentor-ge16+then-seg-ge-SERIAL_LIMIT w ↦ w.if-seg-ge-SERIAL_LIMIT.true
    ])))

pub overflow_add-count : goal.overflow_add-count
overflow_add-count c =
    let u = c.args.seg in
    let given = c.requires in
    let same : get_or c.args.numbers.now u.mentor 0 ≡ under given.0 u.mentor = given.3 u.mentor c.if-mentor-ge16.false in
    let limit : under given.0 u.mentor ≤ 64 = few given.0 u.mentor in
    let now : c.from.result ≡ bit c.args.now = c.from.ensures ∙ byte_bit c.args.now in
    omega (arith, same, limit, now, small c.args.now)

pub overflow_sub-numbers : goal.overflow_sub-numbers
overflow_sub-numbers c =
    let u = c.args.seg in
    let given = c.requires in
    let same : get_or c.args.numbers.now u.mentor 0 ≡ under given.0 u.mentor = given.3 u.mentor c.if-mentor-ge16.false in
    let sums : under given.1 u.mentor + bit c.args.was ≡ under given.0 u.mentor + bit c.args.now = there given.0 given.1 u c.args.was c.args.now given.2 c.if-seg-ge-SERIAL_LIMIT.false in
    let now : c.from.result ≡ bit c.args.now = c.from.ensures ∙ byte_bit c.args.now in
    let was : c.from-2.result ≡ bit c.args.was = c.from-2.ensures ∙ byte_bit c.args.was in
    omega (arith, same, sums, now, was)

pub returns : goal.returns
returns c p r change counts m lt =
    let numbers = c.args.numbers.now in
    let u = c.args.seg in
    let now : c.from.result ≡ bit c.args.now = c.from.ensures ∙ byte_bit c.args.now in
    let was : c.from-2.result ≡ bit c.args.was = c.from-2.ensures ∙ byte_bit c.args.was in
    let n : ℕ = get_or numbers u.mentor 0 + c.from.result - c.from-2.result in
    let is : n ≡ get_or numbers u.mentor 0 + bit c.args.now - bit c.args.was = ap (λ k. get_or numbers u.mentor 0 + k - c.from-2.result) now ∙ ap (λ k. get_or numbers u.mentor 0 + bit c.args.now - k) was in
    in_place numbers p r u c.args.was c.args.now m n change counts c.told-numbers c.if-mentor-ge16.false c.if-seg-ge-SERIAL_LIMIT.false is lt
