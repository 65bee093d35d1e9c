-- The law of the link: what holds of every run of calls from a fresh pair.
use Rattle.std.specs.Prelude.{◌≡◌, ℕ, ◌+◌, ◌≤◌, List, ◌++◌, length, ◌≢◌}
use Rattle.std.specs.List.{AllByRecursion}
use Rattle.link.specs.Outcome.{number_of}
use Rattle.link.specs.Runs.{Event, PairM, seen_by, Fullness, Run}
use Rattle.link.specs.Totals.{all_taken, all_handed, all_released, other}
use Rattle.link.specs.declared.side.Side.{Side}

-- one direction: the packets taken at the near end, those handed up at the far end, how many the near end released, and how many it holds
pub record Kept (took handed : List (List ℕ)) (freed held : ℕ) : Type 0 where
  pub first : (rest : List (List ℕ)) × (took ≡ handed ++ rest)  -- handed up are the first of those taken: in order, each once, none left out, none changed
  pub kept : length took ≡ freed + held  -- each packet is held until it is released
  pub after : freed ≤ length handed  -- and released only after it was handed up
  pub settled : held ≡ 0 → handed ≡ took  -- so if none is held, all that were taken were handed up

-- each direction, named by its near end, is kept; and no reply ever named a packet that was not dispatched
pub record Faithful (es : List Event) (t : PairM) : Type 0 where
  pub each : (near : Side) → Kept (all_taken near es) (all_handed (other near) es) (all_released near es) (length (seen_by near t).end.held)
  pub named : AllByRecursion (λ e. number_of e.answer ≢ 12) es

-- every run from s, over carriers that are full so, is faithful
abbrev pub Law : Fullness → Fullness → PairM → Type 0
Law there back s = (es : List Event) (t : PairM) → Run there back s es t → Faithful es t
