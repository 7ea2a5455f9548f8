-- An entry can be read back from its words: a frame's first word is 0, a refusal's is its number.
use native.Mathlib.Omega.{arith}
use mathlib.Core.Path.{◌≡◌, refl, sym, ap}
use mathlib.Core.List.{List}
use lib.ListN.{length}
use Rattle.dss_salvage.specs.declared.Entry.{Entry}
use Rattle.dss_salvage.specs.declared.Entry.TheVariants.{Frame, Refused as Refuses}
use Rattle.dss_salvage.specs.declared.SalvageEntry.{SalvageEntry}
use Rattle.gateway_row.specs.RowWords.{record_len}
use Rattle.wire.specs.Bytes.{joined}
use Rattle.gateway_row.proofs.RecordBack.{record_back, refused_back, never_both, joined_back}
use Rattle.gateway_salvage.specs.SalvageWords.{words_of, entry_words}

words_back : (x y : Entry) → words_of x ≡ words_of y → x ≡ y
words_back (Frame f) (Frame g) e = ap Frame (record_back f g e)
words_back (Frame f) (Refuses r a b) e = absurd (never_both f r a b e)
words_back (Refuses r a b) (Frame f) e = absurd (never_both f r a b (sym e))
words_back (Refuses r a b) (Refuses q x y) e =
    let h = refused_back r q a x b y e in
    λ i. Refuses (h.0 i) (h.1 i) (h.2 i)

-- the words of two entries are the same only where the entries are
pub entry_back : (d e : SalvageEntry) → entry_words d ≡ entry_words e → d ≡ e
entry_back d e h = ap (λ (x : Entry). record { entry = x }) (words_back d.entry e.entry h)

words_long : (x : Entry) → length (words_of x) ≡ record_len
words_long (Frame f) = refl
words_long (Refuses r a b) = refl

pub entry_long : (e : SalvageEntry) → length (entry_words e) ≡ record_len
entry_long e = words_long e.entry

-- a row of entries' records says the entries, and no others
pub entries_back : (ds es : List SalvageEntry) → joined entry_words ds ≡ joined entry_words es → ds ≡ es
entries_back ds es h = joined_back entry_words record_len entry_long (omega arith) entry_back ds es h
