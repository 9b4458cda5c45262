use Rattle.std.proofs.Common.{◌≡◌, ◌++◌, ◌∷◌, [], ℕ, List, None, length, sym, ap, ◌∙◌, arith}
use Rattle.std.specs.Option.{option_copied}
use Rattle.ossl_commands.specs.Named.{found, found_among}
use Rattle.ossl_commands.proofs.FilesLaws.{found-more, is_new}
use Rattle.ossl_commands.proofs.files.NamedFiles.place.Goals as goal

pub invariant_of-self-2 : goal.invariant_of-self-2
invariant_of-self-2 c q =
    let files : List (List ℕ) = c.self.inside.names.items in
    let before : (q : List ℕ) → found c.self.inside.places q ≡ found_among files q = c.self.invariant in
    let key : List ℕ = c.in_ok-key.key.items in
    let none : found_among files c.args.name.now ≡ None = sym (before c.args.name.now) ∙ sym c.get.ensures.value ∙ ap option_copied c.in_default.is in
    let none-key : found_among files key ≡ None = ap (found_among files) c.in_ok-key.ensures.items ∙ none in
    let last : c.self.inside.names.len ≡ length files = omega (arith, c.self.inside.names.ok.0) in
    let all : c.push_reserved.new.self.items ≡ files ++ key ∷ [] =
    cc (c.push_reserved.ensures.items, c.reserve.ensures.items, c.of-text.ensures.bytes, c.in_ok-from_slice.ensures.items, c.in_ok-key.ensures.items) in
    found-more files c.self.inside.places c.insert.new.self key c.len-place.result before none-key (c.len-place.ensures ∙ last) c.in_ok-insert.ensures.updates q
    ∙ sym (ap (λ names. found_among names q) all)

pub returns-clause-place : goal.returns-clause-place
returns-clause-place c =
    let files : List (List ℕ) = c.self.inside.names.items in
    let before : (q : List ℕ) → found c.self.inside.places q ≡ found_among files q = c.self.invariant in
    let none : found_among files c.args.name.now ≡ None = sym (before c.args.name.now) ∙ sym c.get.ensures.value ∙ ap option_copied c.in_default.is in
    let last : c.self.inside.names.len ≡ length files = omega (arith, c.self.inside.names.ok.0) in
    rw (← c.self.view_is) (c.len-place.ensures ∙ last ∙ (is_new files c.args.name.now none).0)
