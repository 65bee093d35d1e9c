-- The kind of a reply and its byte.
use Rattle.std.specs.Prelude.{ℕ, if◌then◌else◌, Some, None, Option, ◌==◌}
use Rattle.terms.specs.declared.reply.ReplyKind.{ReplyKind}
use Rattle.terms.specs.declared.reply.ReplyKind.TheVariants.{Ack, Nak}

-- ACK or NAK, at place 9 of a link frame
abbrev pub kind_byte : ReplyKind → ℕ
kind_byte Ack = 0x00
kind_byte Nak = 0x80

-- the kind that a byte stands for, which is one of the two
abbrev pub kind_of_byte : ℕ → Option ReplyKind
kind_of_byte b = if b == 0x00 then Some Ack else if b == 0x80 then Some Nak else None
