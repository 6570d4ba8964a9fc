use Rattle.mailbox_laws.proofs.Runs.{mail_arrives}
use Rattle.mailbox_laws.proofs.ByTicket.{posts_are_by_ticket}
use Rattle.mailbox_laws.proofs.mailbox_laws.Goals as goal

pub returns : goal.returns
returns c = record { arrives = mail_arrives; tickets = posts_are_by_ticket }
