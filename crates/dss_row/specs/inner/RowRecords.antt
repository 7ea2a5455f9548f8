-- Records laid into a row from a place on, whatever stands there: one, and the place behind it, or none.
use Rattle.std.specs.Prelude.{ℕ, zero, suc, ◌-◌, ◌^◌, ◌≤◌, min, List, [], ◌∷◌, Option, Some, None}
use Rattle.dss_frame.specs.declared.RowPlace.{RowPlace}

abbrev pub one_more : {T : Type 0} → Option (T × RowPlace) → (RowPlace → List T) → List T
one_more (Some (r, next)) more = r ∷ more next
one_more None more = []

-- the records from a place on, at most n of them
unfoldable pub laid_from : {T : Type 0} → (RowPlace → Option (T × RowPlace)) → ℕ → RowPlace → List T
laid_from found zero x = []
laid_from found (suc n) x = one_more (found x) (λ next. laid_from found n next)

-- the place behind a record lies no further into the room than into the run
abbrev pub PlaceKept : {T : Type 0} → Option (T × RowPlace) → Type 0
PlaceKept (Some (r, next)) = next.payload_at ≤ next.at
PlaceKept None = Unit {0}

-- as 64 bits hold it: where payloads end beyond 2^64 - 1, that is said
abbrev pub place_held : {T : Type 0} → Option (T × RowPlace) → Option (T × RowPlace)
place_held (Some (r, next)) = Some (r, record { at = next.at; payload_at = min next.payload_at (2 ^ 64 - 1); left = next.left })
place_held None = None
