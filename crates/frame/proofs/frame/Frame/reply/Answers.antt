use Rattle.std.proofs.Common.{map, ap, ◌∙◌, lit≤}
use Rattle.std.specs.List.{range_with_len}
use Rattle.std.proofs.lemmas.List.FromFn.{length-map-range_with_len}
use Rattle.frame.specs.Form.{form_mark, link_byte, reply_frame}
use Rattle.frame.specs.Reading.{reading}
use Rattle.frame.specs.Room.{in_room}
use Rattle.frame.specs.declared.frame.Kind.TheVariants.{Link}
use Rattle.frame.proofs.Readings.{reads_reply}
use Rattle.frame.proofs.Views.{made}
use Rattle.frame.proofs.frame.Frame.reply.Goals as goal

pub returns : goal.returns
unfolding reply_frame
returns c =
    let whole =
    made 1 (map (link_byte c.args.reply) (range_with_len 0 128)) c.in_room.result (map (form_mark Link 8) (range_with_len 0 8)) c.marks.result
    (c.in_room.ensures ∙ ap (in_room 640 0) c.reply_bytes.ensures) c.marks.ensures
    (record {
      some = lit≤ tt;
      few = lit≤ tt;
      bytes_long = length-map-range_with_len (link_byte c.args.reply) 0 128;
      marks_long = length-map-range_with_len (form_mark Link 8) 0 8;
    }) in
    record { made = whole; reads = ap reading whole ∙ reads_reply c.args.reply }
