-- A clip that the search shows.
use Rattle.std.specs.Prelude.{IfSome, List, ℕ, ◌≤◌, length}
use Rattle.finder.specs.declared.search.Found.{Found}

-- A clip that is found has a frame or more, and lies within the witness buffer
abbrev pub ClipWithin : Found → List ℕ → Type 0
ClipWithin found witness = IfSome found.length (λ l. (1 ≤ l) × (l ≤ length witness))
