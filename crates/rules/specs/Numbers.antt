-- The number of each answer.
use Rattle.std.specs.Prelude.{ℕ, ◌+◌, ◌*◌}
use Rattle.rules.specs.declared.answers.Answer.{Answer}
use Rattle.rules.specs.declared.answers.Delivered.{Delivered}
use Rattle.rules.specs.declared.answers.Ending.{Ending}
use Rattle.rules.specs.declared.answers.Sent.{Sent}
use Rattle.rules.specs.declared.rows.Permission.{Permission}
use Rattle.slip.specs.Numbers.{kind_number}

abbrev pub permission_number : Permission → ℕ
permission_number Permission.Clear = 1
permission_number Permission.Permissive = 2

abbrev pub sent_number : Sent → ℕ
sent_number Sent.NotTaken = 0
sent_number Sent.Taken = 1

abbrev pub ending_number : Ending → ℕ
ending_number Ending.Ignored = 0
ending_number Ending.Found = 1
ending_number Ending.Replied = 2
ending_number Ending.ReplyNotTaken = 3

-- tens: the kind of slip; ones: how its hearing ended
abbrev pub delivered_number : Delivered → ℕ
delivered_number d = 10 * kind_number d.kind + ending_number d.ending

abbrev pub answer_number : Answer → ℕ
answer_number (Answer.Serial serial) = serial
answer_number (Answer.Sent sent) = sent_number sent
answer_number (Answer.Shown permission) = permission_number permission
answer_number (Answer.Repeated kind) = kind_number kind
answer_number (Answer.Delivered delivered) = delivered_number delivered
answer_number Answer.Faded = 0
