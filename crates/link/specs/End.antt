-- An end of the link, and what becomes of it.
use Rattle.std.specs.Prelude.{ℕ, ◌+◌, ◌-◌, ◌%◌, max, Bool, true, false, if◌then◌else◌, List, [], ◌∷◌, ◌++◌, length, drop, Some, None, Option}
use Rattle.terms.specs.declared.reply.Reply.{Reply}
use Rattle.terms.specs.declared.reply.ReplyKind.{ReplyKind}
use Rattle.terms.specs.declared.reply.ReplyKind.TheVariants.{Ack, Nak}

pub record EndM : Type 0 where
  pub next : ℕ  -- the ID of the next packet that is taken
  pub held : List (List ℕ)  -- the packets taken and not yet released, oldest first
  pub sent : ℕ  -- how many of these were ever dispatched
  pub cursor : ℕ  -- how many of these were dispatched since the last rewind
  pub expected : ℕ  -- the ID of the next packet that is handed up
  pub flag : Bool  -- a NAK was made since a packet was last handed up
  pub waiting : Option Reply  -- the reply that waits to be dispatched

abbrev pub fresh : EndM
fresh = record { next = 0; held = []; sent = 0; cursor = 0; expected = 0; flag = false; waiting = None }

-- the ID of the oldest held packet: those held have the IDs before the next one; the next one itself if none is held
abbrev pub oldest : EndM → ℕ
oldest e = (e.next + 256 - length e.held) % 256

-- the ID of the held packet at the cursor
abbrev pub cursor_id : EndM → ℕ
cursor_id e = (oldest e + e.cursor) % 256

-- how many packets a reply with ID a releases: a - oldest + 1, modulo 256
abbrev pub distance : EndM → ℕ → ℕ
distance e a = (a + 257 - oldest e) % 256

-- the packet p is held under the next ID
abbrev pub hold : List ℕ → EndM → EndM
hold p e = record e { next = (e.next + 1) % 256; held = e.held ++ (p ∷ []) }

-- the held packets are dispatched again from the oldest on
abbrev pub rewind : EndM → EndM
rewind e = record e { cursor = 0 }

-- the held packet at the cursor was dispatched
abbrev pub advance : EndM → EndM
advance e = record e { sent = max e.sent (e.cursor + 1); cursor = e.cursor + 1 }

-- the waiting reply was dispatched
abbrev pub clear_reply : EndM → EndM
clear_reply e = record e { waiting = None }

abbrev pub ack : ℕ → Reply
ack id = record { kind = Ack; id = id }

abbrev pub nak : ℕ → Reply
nak id = record { kind = Nak; id = id }

-- the expected packet was handed up: the flag goes down, and an ACK with its ID becomes the waiting reply
abbrev pub accept : EndM → EndM
accept e = record e { expected = (e.expected + 1) % 256; flag = false; waiting = Some (ack e.expected) }

-- a frame of protocol kind was dropped: if the flag was down it goes up, and a NAK with the ID before the expected one becomes the waiting reply
abbrev pub object : EndM → EndM
object e = record e { flag = true; waiting = if e.flag then e.waiting else Some (nak ((e.expected + 255) % 256)) }

-- the d oldest are released; the cursor does not fall below 0
abbrev pub release : ℕ → EndM → EndM
release d e = record e { held = drop d e.held; sent = e.sent - d; cursor = e.cursor - d }

-- a NAK rewinds
abbrev pub rewind_on : ReplyKind → EndM → EndM
rewind_on Ack e = e
rewind_on Nak e = rewind e
