use Rattle.std.proofs.Common.{Ok, Err, sym, subst, ◌∙◌}
use Rattle.text_lines.specs.Lines.{views}
use Rattle.script_asm.specs.Spelling.{Spells}
use Rattle.script_asm.specs.Reading.{place_of}
use Rattle.script_asm.proofs.Valid.{program_is}
use Rattle.script_asm.proofs.Outcome.{read_spells, refused_right, only_program, only_error, refused_program}
use Rattle.script_asm.proofs.Bytes.{answer_allowed}
use Rattle.script_asm.proofs.reading.read_lines.Goals as goal

pub finished-requires : goal.finished-requires
finished-requires c = program_is (views c.args.lines.now) (place_of c.in-Ok.draft) c.in-Ok.ensures

pub returns-in-Ok-clause-only : goal.returns-in-Ok-clause-only
returns-in-Ok-clause-only c = λ program says. c.finished.ensures ∙ only_program (views c.args.lines.now) (place_of c.in-Ok.draft) c.in-Ok.ensures program says

pub returns-in-Ok-clause-refused : goal.returns-in-Ok-clause-refused
returns-in-Ok-clause-refused c = λ line code fault. refused_program (views c.args.lines.now) (place_of c.in-Ok.draft) c.in-Ok.ensures line code fault

pub returns-in-Err-clause-only : goal.returns-in-Err-clause-only
returns-in-Err-clause-only c = λ program says. only_error (views c.args.lines.now) c.in-Err.error c.in-Err.ensures program says

pub returns-in-Ok-clause-bytes : goal.returns-in-Ok-clause-bytes
returns-in-Ok-clause-bytes c = answer_allowed (views c.args.lines.now) (Ok c.in-Ok.draft.program.items) (read_spells (views c.args.lines.now) (place_of c.in-Ok.draft) c.in-Ok.ensures)

pub returns-in-Err-clause-bytes : goal.returns-in-Err-clause-bytes
returns-in-Err-clause-bytes c = answer_allowed (views c.args.lines.now) (Err c.in-Err.error) (refused_right (views c.args.lines.now) c.in-Err.error c.in-Err.ensures)

pub returns-in-Ok-clause-right : goal.returns-in-Ok-clause-right
returns-in-Ok-clause-right c = subst (Spells (views c.args.lines.now)) (sym c.finished.ensures) (read_spells (views c.args.lines.now) (place_of c.in-Ok.draft) c.in-Ok.ensures)
