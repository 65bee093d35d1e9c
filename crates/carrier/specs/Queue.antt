-- A queue in fixed memory.
use Rattle.std.specs.Prelude.{◌≡◌, ℕ, List, [], ◌∷◌, Some, None, Option}
use Rattle.std.specs.VecDeque.{deque_items}
use Rattle.carrier.specs.declared.queue.Queue.{Queue}

-- its items, oldest first
abbrev pub queue_items : {T : Type 0} {N : ℕ} → Queue T N → List T
queue_items q = deque_items q.items

-- what a pop answers: the oldest item, which is removed; or none exactly where there is none, and then nothing changes
abbrev pub Popped : {T : Type 0} {N : ℕ} → Queue T N → Option T → Queue T N → Type 0
Popped old None new = (queue_items old ≡ []) × (new ≡ old)
Popped old (Some item) new = queue_items old ≡ item ∷ queue_items new
