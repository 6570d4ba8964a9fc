use Rattle.std.proofs.Common.{◌≡◌, ℕ, ap, subst, arith}
use Rattle.shared_words.specs.Ports.{Whole}
use Rattle.shared_words.specs.declared.seats.Seats.{Seats}
use Rattle.processors.specs.Teams.{QuantaTaken, dealt}
use Rattle.processors.proofs.Gathering.{quanta_gather, quanta_round}
use Rattle.processors.proofs.quanta.round.Goals as goal

pub gather-whole-requires-clause-first : goal.gather-whole-requires-clause-first
gather-whole-requires-clause-first g c =
    let d = c.deal-seats.ensures in
    let e : c.deal-seats.result ≡ dealt c.args.words.now c.count.result c.args.whole = λ i. record { first = d.first i; second = d.second i; third = d.third i; fourth = d.fourth i } in
    let t = subst (λ (seats : Seats). QuantaTaken c.args.shared.now c.args.team.now seats c.quanta.new.team c.quanta.new.seats) e c.quanta.ensures.takes in
    let u = subst (λ (n : ℕ). QuantaTaken c.args.shared.now c.args.team.now (dealt c.args.words.now n c.args.whole) c.quanta.new.team c.quanta.new.seats) c.count.ensures t in
    let r = c.requires.ready in
    (quanta_gather c.args.shared.now c.args.words.now c.args.whole c.args.team.now c.quanta.new.team c.quanta.new.seats d.four r.third_follows r.fourth_follows u).first

pub gather-whole-requires-clause-second : goal.gather-whole-requires-clause-second
gather-whole-requires-clause-second g c =
    let d = c.deal-seats.ensures in
    let e : c.deal-seats.result ≡ dealt c.args.words.now c.count.result c.args.whole = λ i. record { first = d.first i; second = d.second i; third = d.third i; fourth = d.fourth i } in
    let t = subst (λ (seats : Seats). QuantaTaken c.args.shared.now c.args.team.now seats c.quanta.new.team c.quanta.new.seats) e c.quanta.ensures.takes in
    let u = subst (λ (n : ℕ). QuantaTaken c.args.shared.now c.args.team.now (dealt c.args.words.now n c.args.whole) c.quanta.new.team c.quanta.new.seats) c.count.ensures t in
    let r = c.requires.ready in
    (quanta_gather c.args.shared.now c.args.words.now c.args.whole c.args.team.now c.quanta.new.team c.quanta.new.seats d.four r.third_follows r.fourth_follows u).second

pub gather-whole-requires-clause-third : goal.gather-whole-requires-clause-third
gather-whole-requires-clause-third g c =
    let d = c.deal-seats.ensures in
    let e : c.deal-seats.result ≡ dealt c.args.words.now c.count.result c.args.whole = λ i. record { first = d.first i; second = d.second i; third = d.third i; fourth = d.fourth i } in
    let t = subst (λ (seats : Seats). QuantaTaken c.args.shared.now c.args.team.now seats c.quanta.new.team c.quanta.new.seats) e c.quanta.ensures.takes in
    let u = subst (λ (n : ℕ). QuantaTaken c.args.shared.now c.args.team.now (dealt c.args.words.now n c.args.whole) c.quanta.new.team c.quanta.new.seats) c.count.ensures t in
    let r = c.requires.ready in
    (quanta_gather c.args.shared.now c.args.words.now c.args.whole c.args.team.now c.quanta.new.team c.quanta.new.seats d.four r.third_follows r.fourth_follows u).third

pub gather-whole-requires-clause-fourth : goal.gather-whole-requires-clause-fourth
gather-whole-requires-clause-fourth g c =
    let d = c.deal-seats.ensures in
    let e : c.deal-seats.result ≡ dealt c.args.words.now c.count.result c.args.whole = λ i. record { first = d.first i; second = d.second i; third = d.third i; fourth = d.fourth i } in
    let t = subst (λ (seats : Seats). QuantaTaken c.args.shared.now c.args.team.now seats c.quanta.new.team c.quanta.new.seats) e c.quanta.ensures.takes in
    let u = subst (λ (n : ℕ). QuantaTaken c.args.shared.now c.args.team.now (dealt c.args.words.now n c.args.whole) c.quanta.new.team c.quanta.new.seats) c.count.ensures t in
    let r = c.requires.ready in
    (quanta_gather c.args.shared.now c.args.words.now c.args.whole c.args.team.now c.quanta.new.team c.quanta.new.seats d.four r.third_follows r.fourth_follows u).fourth

pub gather-whole-requires-clause-all : goal.gather-whole-requires-clause-all
gather-whole-requires-clause-all g c =
    let d = c.deal-seats.ensures in
    let e : c.deal-seats.result ≡ dealt c.args.words.now c.count.result c.args.whole = λ i. record { first = d.first i; second = d.second i; third = d.third i; fourth = d.fourth i } in
    let t = subst (λ (seats : Seats). QuantaTaken c.args.shared.now c.args.team.now seats c.quanta.new.team c.quanta.new.seats) e c.quanta.ensures.takes in
    let u = subst (λ (n : ℕ). QuantaTaken c.args.shared.now c.args.team.now (dealt c.args.words.now n c.args.whole) c.quanta.new.team c.quanta.new.seats) c.count.ensures t in
    let r = c.requires.ready in
    (quanta_gather c.args.shared.now c.args.words.now c.args.whole c.args.team.now c.quanta.new.team c.quanta.new.seats d.four r.third_follows r.fourth_follows u).all

pub returns-clause-counted : goal.returns-clause-counted
returns-clause-counted g c =
    let d = c.deal-seats.ensures in
    let e : c.deal-seats.result ≡ dealt c.args.words.now c.count.result c.args.whole = λ i. record { first = d.first i; second = d.second i; third = d.third i; fourth = d.fourth i } in
    let t = subst (λ (seats : Seats). QuantaTaken c.args.shared.now c.args.team.now seats c.quanta.new.team c.quanta.new.seats) e c.quanta.ensures.takes in
    let r = quanta_round c.args.shared.now c.args.words.now c.count.result c.args.whole c.args.team.now c.quanta.new.team c.quanta.new.seats t in
    let m = ap (λ (w : Whole). w.round) c.mark.ensures in
    let k = ap (λ (w : Whole). w.round) c.gather-whole.ensures in
    omega arith
