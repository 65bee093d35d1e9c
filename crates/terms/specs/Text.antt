-- How the terms are printed.
use Rattle.std.specs.Prelude.{ℕ, List, ◌++◌, codes, decimal}
use Rattle.terms.specs.declared.content.Content.{Content}
use Rattle.terms.specs.declared.content.Content.TheVariants as content
use Rattle.terms.specs.declared.fault.Layer.{Layer}
use Rattle.terms.specs.declared.fault.Layer.TheVariants.{End, Carrier, Frame, Check, Host, Lane, Setting}
use Rattle.terms.specs.declared.fault.Refusal.{Refusal}
use Rattle.terms.specs.declared.reply.Reply.{Reply}
use Rattle.terms.specs.declared.reply.ReplyKind.{ReplyKind}
use Rattle.terms.specs.declared.reply.ReplyKind.TheVariants.{Ack, Nak}

abbrev pub kind_text : ReplyKind → List ℕ
kind_text Ack = codes "ACK"
kind_text Nak = codes "NAK"

-- as in ACK, ID 7
abbrev pub reply_text : Reply → List ℕ
reply_text r = kind_text r.kind ++ (codes ", ID " ++ decimal r.id)

-- as in packet, ID 7, 128 bytes
abbrev pub content_text : Content → List ℕ
content_text (content.Packet id size) = codes "packet, ID " ++ (decimal id ++ (codes ", " ++ (decimal size ++ codes " bytes")))
content_text (content.Reply r) = reply_text r

abbrev pub layer_text : Layer → List ℕ
layer_text End = codes "end"
layer_text Carrier = codes "carrier"
layer_text Frame = codes "frame"
layer_text Check = codes "check"
layer_text Host = codes "host"
layer_text Lane = codes "lane"
layer_text Setting = codes "setting"

-- the number, the layer and the place, as in 1 end 0
abbrev pub refusal_text : Refusal → List ℕ
refusal_text r = decimal r.number ++ (codes " " ++ (layer_text r.layer ++ (codes " " ++ decimal r.place)))
