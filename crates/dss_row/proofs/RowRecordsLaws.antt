-- The laws of records laid into a row, whatever stands at a place.
use Rattle.std.specs.Prelude.{Option}
use Prim.Native.Nat.{ℕ, suc}
use mathlib.Core.Path.{◌≡◌, refl, sym, ap}
use mathlib.Core.List.{[]}
use Rattle.dss_frame.specs.declared.RowPlace.{RowPlace}
use Rattle.dss_row.specs.inner.RowRecords.{one_more, laid_from}

module _ {T : Type 0} (found : RowPlace → Option (T × RowPlace)) where
  -- what is found first comes first
  pub laid_step : (n : ℕ) (x : RowPlace) (f : Option (T × RowPlace)) → f ≡ found x → laid_from found (suc n) x ≡ one_more f (laid_from found n)
  unfolding laid_from
  laid_step n x f e = ap (λ (g : Option (T × RowPlace)). one_more g (λ next. laid_from found n next)) (sym e)

  -- a row with no place left
  pub laid_full : (x : RowPlace) → laid_from found 0 x ≡ []
  unfolding laid_from
  laid_full x = refl
