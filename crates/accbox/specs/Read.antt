-- Reading a word part by part.
use Rattle.std.specs.Prelude.{List, [], ◌∷◌, Some, None, Option}

-- the first part before the others, where each of them could be read
abbrev pub with_first : {X : Type 0} → Option X → Option (List X) → Option (List X)
with_first (Some x) (Some xs) = Some (x ∷ xs)
with_first (Some x) None = None
with_first None xs = None

-- what the parts read as, where each of them could be read
abbrev pub all_read : {X : Type 0} → List (Option X) → Option (List X)
all_read [] = Some []
all_read (x ∷ xs) = with_first x (all_read xs)
