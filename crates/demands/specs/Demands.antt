-- The user's demands 2 and 3, as statements about any writer, any reader and any salvage reading.
use Rattle.std.specs.Prelude.{ℕ, ◌+◌, ◌*◌, ◌≤◌, ◌<◌, ◌≡◌, false, ◌⊎◌, List, [], ◌∷◌, ◌++◌, length, get_or, Err}
use Rattle.answer.specs.declared.Refusal.TheVariants.{Incomplete}
use Rattle.answer.specs.declared.Refused.{Refused}
use Rattle.dss_head.specs.Heads.{head_at}
use Rattle.dss_frame.specs.Segments.{payload_of, end_of}
use Rattle.dss_frame.specs.Reading.{Read, frame, refused, Frame}
use Rattle.dss_frame.specs.Salvage.{Entry, Salvaged}
use Rattle.dss_frame.specs.Written.{Sent}
use Rattle.ddm_builder.specs.Built.{built}

abbrev pub Reader : Type 0
Reader = List ℕ → ℕ → Read

abbrev pub Writer : Type 0
Writer = Sent → List ℕ

abbrev pub Salvager : Type 0
Salvager = List ℕ → Salvaged

-- a frame that can be sent: its correlation is a number of sixteen bits, its payload is of bytes
pub record Sendable (f : Sent) : Type 0 where
  pub correlation : f.correlation < 65536
  pub payload : (k : ℕ) → get_or f.payload k 0 < 256

-- "a payload of 32,761 plus one or more times 32,765 bytes"
pub record Unreadable (f : Sent) : Type 0 where
  pub times : ℕ
  pub size : length f.payload ≡ 32761 + (times + 1) * 32765

-- what a frame handed out says, over the run that it was read from: "type, flags, correlation, payload"
pub record Gives (f : Sent) (run : List ℕ) (g : Frame) : Type 0 where
  pub type : g.head.dss_type ≡ f.type
  pub chained : g.head.flags.chained ≡ f.chained
  pub no_continue : g.head.flags.continue_on_error ≡ false
  pub same : g.head.flags.same_correlation ≡ f.same
  pub correlation : g.head.correlation_id ≡ f.correlation
  pub payload : payload_of run g.segments ≡ f.payload

-- a frame comes back from its written bytes alone
pub record ComesBack (writes : Writer) (reads : Reader) (f : Sent) : Type 0 where
  pub read : Frame
  pub is : reads (writes f) 0 ≡ frame read
  pub gives : Gives f (writes f) read
  pub consumed : end_of 0 read.segments ≡ length (writes f)

-- "A written frame, read alone with enough room, gives back type, flags, correlation, payload and is wholly consumed."
abbrev pub ReadsBack : Writer → Reader → Type 0
ReadsBack writes reads = (f : Sent) → Sendable f → (Unreadable f → ⊥) → ComesBack writes reads f

-- W-205: the same with no size left out. It is salvage's rules that have this
abbrev pub ReadsEverySize : Writer → Reader → Type 0
ReadsEverySize writes reads = (f : Sent) → Sendable f → ComesBack writes reads f

-- "With a payload of 32,761 plus one or more times 32,765 bytes, the reader says it isn't whole."
abbrev pub NotWhole : Writer → Reader → Type 0
NotWhole writes reads =
    (f : Sent) → Sendable f → Unreadable f → reads (writes f) 0 ≡ refused (record { why = Incomplete; place = 0 })

-- "each able to stand by itself as the specification says"
pub record StartsObject (f : Sent) : Type 0 where
  pub code_point : ℕ
  pub content : List ℕ
  pub more : List ℕ
  pub starts : f.payload ≡ built code_point content ++ more
  pub inline : length content ≤ 32763
  pub above : 0x0100 < code_point
  pub fits : code_point < 65536
  pub five : 5 ≤ length f.payload

abbrev pub Stands : Sent → Type 0
Stands f = (f.same ≡ false) ⊎ ((32761 < length f.payload) ⊎ StartsObject f)

-- the places of a frame's length fields: its first two bytes, and the first two of each continuation
abbrev pub LengthField : Sent → ℕ → Type 0
LengthField f k =
    (k < 2) ⊎ record { i : ℕ; several : 32761 < length f.payload; at : ((i + 1) * 32767 ≤ k) × (k < (i + 1) * 32767 + 2) }

-- "spoil the magic byte or the type so that the head is refused; change its flags, correlation and payload bytes too, but no length field"
pub record Spoilt (writes : Writer) (f : Sent) (b : List ℕ) : Type 0 where
  pub length_kept : length b ≡ length (writes f)
  pub bytes : (k : ℕ) → get_or b k 0 < 256
  pub lengths_kept : (k : ℕ) → LengthField f k → get_or b k 0 ≡ get_or (writes f) k 0
  pub reason : Refused
  pub head_refused : head_at b 0 ≡ Err reason

-- what comes off the wire: a frame as written, or one that was spoilt; W-205: "demand 3 has no forbidden sizes"
pub data Item (writes : Writer) : Type 0 where
  good : (f : Sent) → Sendable f → Stands f → Item writes
  spoilt : (f : Sent) → Sendable f → Stands f → (b : List ℕ) → Spoilt writes f b → Item writes

abbrev pub item_bytes : {writes : Writer} → Item writes → List ℕ
item_bytes {writes} (good f _ _) = writes f
item_bytes {writes} (spoilt f _ _ b _) = b

unfoldable pub run : {writes : Writer} → List (Item writes) → List ℕ
run [] = []
run (i ∷ is) = item_bytes i ++ run is

-- what is read is what is due for an item that starts at a place: the frame exactly as written, or one refusal at its first byte
abbrev pub DueRead : {writes : Writer} → List ℕ → ℕ → Item writes → Read → Type 0
DueRead s p (good f _ _) (frame g) = Gives f s g
DueRead s p (good f _ _) (refused r) = ⊥
DueRead s p (spoilt f _ _ b x) (frame g) = ⊥
DueRead s p (spoilt f _ _ b x) (refused r) = (r.place ≡ p) × (r.why ≡ x.reason.why)

-- an entry is what is due for such an item: it stands at the item's bytes, and reads what is due
pub record Due {writes : Writer} (s : List ℕ) (p : ℕ) (i : Item writes) (e : Entry) : Type 0 where
  pub at : e.at ≡ p
  pub end : e.end ≡ p + length (item_bytes i)
  pub read : DueRead s p i e.read

-- "every other frame, in order and exactly as written, and one refusal at the first byte of each spoilt frame, and nothing else"
unfoldable pub AllDue : {writes : Writer} → List ℕ → ℕ → List (Item writes) → List Entry → Type 0
AllDue s p [] [] = Unit {0}
AllDue s p [] (e ∷ es) = ⊥
AllDue s p (i ∷ is) [] = ⊥
AllDue s p (i ∷ is) (e ∷ es) = Due s p i e × AllDue s (p + length (item_bytes i)) is es

-- entries follow each other without gap or overlap, from a place to another
unfoldable pub Gapless : ℕ → List Entry → ℕ → Type 0
Gapless a [] t = a ≡ t
Gapless a (e ∷ es) t = (e.at ≡ a) × Gapless e.end es t

-- none ends before it starts
unfoldable pub InOrder : List Entry → Type 0
InOrder [] = Unit {0}
InOrder (e ∷ es) = (e.at ≤ e.end) × InOrder es

-- what a salvage reading from a place on hands out covers the run from there up to the tail
pub record Covered (s : List ℕ) (p : ℕ) (x : Salvaged) : Type 0 where
  pub gapless : Gapless p x.entries x.tail
  pub in_order : InOrder x.entries
  pub inside : x.tail ≤ length s

-- of every run, whatever its bytes
abbrev pub Covers : Salvager → Type 0
Covers salvages = (s : List ℕ) → Covered s 0 (salvages s)

abbrev pub Salvages : Writer → Salvager → Type 0
Salvages writes salvages =
    (items : List (Item writes)) →
    AllDue (run items) 0 items (salvages (run items)).entries × ((salvages (run items)).tail ≡ length (run items))
