use Rattle.std.proofs.Common.{◌≡◌, ◌+◌, take, length, unwrap_or, Ok}
use Rattle.ossl_names.specs.Groups.{known_numbers}
use Rattle.ossl_names.specs.Addition.{common_number}
use Rattle.ossl_names.proofs.Finds.{values}
use Rattle.ossl_names.proofs.Addition.{first_of}
use Rattle.ossl_names.proofs.map.NameMap.number_for.Given as goal

abbrev pub invariant-loop-name : goal.invariant-loop-name
invariant-loop-name l = record {
  first : l.first ≡ first_of (known_numbers l.self (take l.name-index (values l.names)));
  common : common_number (length l.self + 1) (known_numbers l.self (take l.name-index (values l.names))) ≡ Ok (unwrap_or l.first (length l.self + 1));
}
