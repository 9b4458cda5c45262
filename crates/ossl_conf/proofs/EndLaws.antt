-- The end of what counts of a text, byte by byte.
use Rattle.std.proofs.Common.{◌≡◌, ℕ, ◌+◌, ◌<◌, ◌≤◌, Bool, true, false, ◌&&◌, if◌then◌else◌, List, [], ◌∷◌, length, get_or, drop, refl, ap, ◌∙◌}
use Rattle.std.proofs.lemmas.List.{at_drop_more, at_drop_all}
use Rattle.ossl_conf.specs.declared.counted.Place.{Place}
use Rattle.ossl_conf.specs.Counted.{begins_comment, dropped, end_of, is_free, place_after}

module _ (quotes slash : Bool) (place : Place) (at end : ℕ) (text : List ℕ) where
  -- a comment begins
  pub end_of-stops : at < length text → begins_comment place (get_or text at 0) ≡ true → end_of quotes slash place at end (drop at text) ≡ end
  end_of-stops lt h = at_drop_more (end_of quotes slash place at end) text at 0 lt ∙ rw h refl

  -- the text goes on
  pub end_of-goes_on : at < length text → begins_comment place (get_or text at 0) ≡ false → end_of quotes slash place at end (drop at text)
      ≡ end_of quotes slash (place_after quotes place (get_or text at 0)) (at + 1) (if is_free place && dropped slash (get_or text at 0) then end else at + 1) (drop (at + 1) text)
  end_of-goes_on lt h = at_drop_more (end_of quotes slash place at end) text at 0 lt ∙ rw h refl

  -- the text is over
  pub end_of-over : length text ≤ at → end_of quotes slash place at end (drop at text) ≡ end
  end_of-over le = at_drop_all (end_of quotes slash place at end) text at le
