-- The number, layer and place of each refusal.
use Rattle.std.specs.Prelude.{ℕ}
use Rattle.terms.specs.declared.fault.Refusal.{Refusal}
use Rattle.terms.specs.declared.fault.Layer.{Layer}
use Rattle.terms.specs.declared.fault.Layer.TheVariants as layer
use Rattle.terms.specs.declared.fault.PacketFault.{PacketFault}
use Rattle.terms.specs.declared.fault.PacketFault.TheVariants.{Length, Reserved}
use Rattle.terms.specs.declared.fault.FrameFault.{FrameFault}
use Rattle.terms.specs.declared.fault.FrameFault.TheVariants.{Sync, Form, Check}
use Rattle.terms.specs.declared.fault.HostFault.{HostFault}
use Rattle.terms.specs.declared.fault.UnpackFault.{UnpackFault}
use Rattle.terms.specs.declared.fault.UnpackFault.TheVariants as unpack

abbrev pub panel : ℕ → Layer → ℕ → Refusal
panel n l at = record { number = n; layer = l; place = at }

-- bytes that are no packet: none of the five lengths; the lowest reserved place that is not zero
abbrev pub packet_refusal : PacketFault → Refusal
packet_refusal Length = panel 1 layer.End 0
packet_refusal (Reserved at) = panel 2 layer.End at

-- a frame that is not good: the character with a sync error; the place of a wrong form; the place of a wrong check byte
abbrev pub frame_refusal : FrameFault → Refusal
frame_refusal (Sync at) = panel 7 layer.Frame at
frame_refusal (Form at) = panel 8 layer.Frame at
frame_refusal (Check at) = panel 9 layer.Check at

-- a buffer shorter than the bytes needed for the packet
abbrev pub host_refusal : HostFault → Refusal
host_refusal f = panel 11 layer.Host f.needed

-- either of the two, as it is
abbrev pub unpack_refusal : UnpackFault → Refusal
unpack_refusal (unpack.Frame f) = frame_refusal f
unpack_refusal (unpack.Host f) = host_refusal f
