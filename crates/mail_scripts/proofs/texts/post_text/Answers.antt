use Rattle.std.proofs.Common.{◌≡◌, string_bytes, arith}
use Rattle.text_lines.specs.Lines.{lines}
use Rattle.script_asm.specs.Spelling.{Spells}
use Rattle.mail_scripts.specs.Programs.{post_program}
use Rattle.mail_scripts.specs.Texts.{post_bytes}
use Rattle.mail_scripts.proofs.Post.{post_spells}
use Rattle.mail_scripts.proofs.Spelled.{if_ok_more}
use Rattle.mail_scripts.proofs.texts.post_text.Goals as goal

pub returns-clause-text : goal.returns-clause-text
returns-clause-text c = c.format.ensures.ok

pub returns-clause-spells : goal.returns-clause-spells
returns-clause-spells c = if_ok_more (λ t. string_bytes t ≡ post_bytes c.args.entry c.args.size c.args.first c.args.count) (λ t. Spells (lines (string_bytes t)) (post_program c.args.entry c.args.size c.args.first c.args.count))
    (λ t. post_spells c.args.entry c.args.size c.args.first c.args.count (let h = c.ranges.entry in omega (arith, h)) (let h = c.ranges.size in omega (arith, h)) (let h = c.ranges.first in omega (arith, h)) (let h = c.ranges.count in omega (arith, h)) (string_bytes t)) c.format.result c.format.ensures.ok
