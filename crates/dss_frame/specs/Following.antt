-- Stretches of a run: document 02, W-201, "the first byte and the byte after the last one in the run".
use Rattle.std.specs.Prelude.{ℕ, ◌+◌, ◌≤◌, ◌≡◌, List, [], ◌∷◌, get_or}

-- "these stretches follow each other without gap or overlap", from a place to another: each starts where the one before it ends, and
-- none ends before it starts
unfoldable pub Follow : {A : Type 0} → (A → ℕ) → (A → ℕ) → ℕ → List A → ℕ → Type 0
Follow from to p [] t = p ≡ t
Follow from to p (x ∷ xs) t = (from x ≡ p) × (from x ≤ to x) × Follow from to (to x) xs t

-- bytes that come from a stretch of a run: each stands at a place of its own, in order, none before p and none at e or behind it
unfoldable pub ComesFrom : List ℕ → ℕ → ℕ → List ℕ → Type 0
ComesFrom s p e [] = p ≤ e
ComesFrom s p e (b ∷ bs) = record { place : ℕ; from : p ≤ place; is : get_or s place 0 ≡ b; others : ComesFrom s (place + 1) e bs }

-- a thing is so of each of a list
unfoldable pub Each : {A : Type 0} → (A → Type 0) → List A → Type 0
Each P [] = Unit {0}
Each P (x ∷ xs) = P x × Each P xs
