-- The first `::` of a name, byte by byte.
use Rattle.std.proofs.Common.{◌≡◌, ℕ, ◌+◌, ◌<◌, ◌≤◌, Bool, true, false, None, Some, List, length, drop, refl, ap, sym, ◌∙◌}
use Rattle.std.proofs.lemmas.List.{drop_more, at_drop_all}
use Rattle.ossl_conf.specs.Values.{begins_with_colons, colons_from}

module _ (at : ℕ) (name : List ℕ) where
  -- it begins here
  pub colons_from-here : at < length name → begins_with_colons (drop at name) ≡ true → colons_from at (drop at name) ≡ Some at
  colons_from-here lt h = let more = drop_more name at 0 lt in rw more (rw (rw more at h) refl)

  -- it does not
  pub colons_from-later : at < length name → begins_with_colons (drop at name) ≡ false → colons_from at (drop at name) ≡ colons_from (at + 1) (drop (at + 1) name)
  colons_from-later lt h = let more = drop_more name at 0 lt in rw more (rw (rw more at h) refl)

  -- it is not there
  pub colons_from-over : length name ≤ at → colons_from at (drop at name) ≡ None
  colons_from-over le = at_drop_all (colons_from at) name at le
