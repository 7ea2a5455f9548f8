-- Numbers and parts of a list of bytes, what a lent room holds, and tests that pick. Everything else is said in these words.
use Rattle.std.specs.Prelude.{ℕ, zero, suc, ◌+◌, ◌*◌, ◌-◌, ◌/◌, ◌%◌, ◌<◌, Bool, true, false, List, [], ◌∷◌, ◌++◌, eqb, leb, length, get_or, take, drop}

-- ---- tests

-- the first where the test holds, else the second
abbrev pub pick {ℓ} : {X : Type ℓ} → Bool → X → X → X
pick true x y = x
pick false x y = y

abbrev pub and : Bool → Bool → Bool
and true b = b
and false b = false

abbrev pub or : Bool → Bool → Bool
or true b = true
or false b = b

-- ---- numbers

-- the two bytes at a place, most significant first; a byte beyond the list is 0
abbrev pub be16 : List ℕ → ℕ → ℕ
be16 s at = get_or s at 0 * 256 + get_or s (at + 1) 0

-- two bytes of a number below 65,536, most significant first
abbrev pub two : ℕ → List ℕ
two n = n / 256 % 256 ∷ n % 256 ∷ []

-- the number that bytes spell, most significant first, behind the number n
unfoldable pub spelled : ℕ → List ℕ → ℕ
spelled n [] = n
spelled n (b ∷ bs) = spelled (n * 256 + b) bs

-- a number's last k bytes, most significant first
unfoldable pub last : ℕ → ℕ → List ℕ
last zero n = []
last (suc k) n = last k (n / 256) ++ (n % 256 ∷ [])

-- a continuation marker: 7F FE or 7F FF
abbrev pub marker : ℕ → Bool
marker n = or (eqb n 0x7FFE) (eqb n 0x7FFF)

-- ---- parts and rooms

-- the bytes of s from a up to e
abbrev pub part : List ℕ → ℕ → ℕ → List ℕ
part s a e = take (e - a) (drop a s)

-- r with b laid over it from a on
unfoldable pub splice : {A : Type 0} → List A → ℕ → List A → List A
splice r a b = take a r ++ (b ++ drop (a + length b) r)

-- What a lent room, or a lent row of records, holds once b was to be laid down from a on. "No answer but 0 alters a lent
-- buffer. With 0, bytes outside the result stay": where b doesn't fit, the room is as it was.
unfoldable pub laid : {A : Type 0} → List A → ℕ → List A → List A
unfolding splice
laid r a b = pick (leb (a + length b) (length r)) (splice r a b) r

-- The same where a call has several of them: b at its start where all that the call lays down fits, else as it was.
abbrev pub landed : {A : Type 0} → Bool → List A → List A → List A
landed fits r b = pick fits (splice r 0 b) r

-- each of them is a byte
abbrev pub Octets : List ℕ → Type 0
Octets s = (i : ℕ) → get_or s i 0 < 256

-- what is made of each of a list, one behind the other
unfoldable pub joined : {A : Type 0} → (A → List ℕ) → List A → List ℕ
joined made [] = []
joined made (x ∷ xs) = made x ++ joined made xs
