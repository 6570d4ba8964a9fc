use Rattle.std.proofs.Common.{rules, ◌≡◌, ◌-◌, [], ◌∷◌, ◌++◌, List, length, map, subst, ◌∙◌, ap}
use Rattle.safe_save.specs.declared.record.Entry.TheVariants as entry
use Rattle.safe_save.specs.Memory.{Call, Log, Wrote, noted}
use Rattle.safe_save.specs.Entries.{call_of}
use Rattle.safe_save.proofs.Views.{wrote_more}
use Rattle.safe_save.proofs.record.Record.note_write.Goals as goal

pub returns : goal.returns
returns c =
    let entries = c.self.inside.entries.items in
    let payload = c.self.inside.payload.items in
    let bytes = c.args.bytes.now in
    let room = c.self.inside.room - length bytes in
    let made : c.push.new.self.items ≡ entries ++ entry.Wrote c.args.at c.len-from.result (length bytes) ∷ [] = search rules in
    let grown : c.extend_from_slice.new.self.items ≡ payload ++ bytes = search rules in
    let from : c.len-from.result ≡ length payload = search rules in
    let calls : map (call_of c.extend_from_slice.new.self.items) c.push.new.self.items ≡ map (call_of payload) entries ++ Wrote c.args.at bytes ∷ [] =
    ap (λ p. map (call_of p) c.push.new.self.items) grown
    ∙ (ap (map (call_of (payload ++ bytes))) made
    ∙ (ap (λ n. map (call_of (payload ++ bytes)) (entries ++ entry.Wrote c.args.at n (length bytes) ∷ [])) from
    ∙ wrote_more payload bytes c.args.at entries c.self.invariant.known)) in
    subst (λ (log : Log). record { calls = map (call_of c.extend_from_slice.new.self.items) c.push.new.self.items; most = c.self.inside.most; room = room } ≡ record (noted log (Wrote c.args.at bytes)) { room = log.room - length bytes })
    c.self.view_is
    (ap (λ (cs : List Call). record { calls = cs; most = c.self.inside.most; room = room }) calls)
