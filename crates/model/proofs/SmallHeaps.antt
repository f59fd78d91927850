-- The words of the small heaps, computed.
use Rattle.std.proofs.Common.{refl}
use Rattle.model.specs.Heaps.{SmallHeaps}

pub small_heaps : SmallHeaps
small_heaps = record {
  surrounded_1 = refl;
  surrounded_2 = refl;
  surrounded_3 = refl;
  surrounded_4 = refl;
  near_4 = refl;
  surrounded_5 = refl;
  near_5 = refl;
  until_6 = refl;
  future_6 = refl;
  next_6 = refl;
  until_7 = refl;
  future_7 = refl;
}
