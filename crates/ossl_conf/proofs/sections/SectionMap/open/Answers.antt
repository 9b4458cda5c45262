use Rattle.std.proofs.Common.{◌≡◌, ap, sym, ◌∙◌, inl, inr, None, Some}
use Rattle.indexmap.specs.IndexSet.{insert_key}
use Rattle.std.specs.Cmp.Lexicographic.{pointwise}
use Rattle.std.specs.Prelude.{nat_eq}
use Rattle.ossl_conf.specs.Kept.{all_sections}
use Rattle.ossl_conf.specs.Places.{place_of}
use Rattle.ossl_conf.specs.Rows.{names_of, rows_of, sections_by}
use Rattle.ossl_conf.proofs.PlaceLaws.{with_section-there}
use Rattle.ossl_conf.proofs.MapLaws.{either_way, insert_key-new, place-new, place_of-keys, placed-new, sections-new, stays-new}
use Rattle.ossl_conf.proofs.sections.SectionMap.open.Goals as goal

pub returns-in-Some-clause-place : goal.returns-in-Some-clause-place
returns-in-Some-clause-place c = sym (place_of-keys c.args.self.now.names.keys (rows_of c.args.self.now.values.entries) c.args.name.now) ∙ sym c.in-Some.ensures.index

pub returns-in-Some-clause-sections : goal.returns-in-Some-clause-sections
returns-in-Some-clause-sections c =
    sym (with_section-there (all_sections c.args.self.now) c.args.name.now c.in-Some.at
    (sym (place_of-keys c.args.self.now.names.keys (rows_of c.args.self.now.values.entries) c.args.name.now) ∙ sym c.in-Some.ensures.index))

pub invariant_of-self-2 : goal.invariant_of-self-2
invariant_of-self-2 c =
    let keys = c.args.self.now.names.keys in
    let rows = rows_of c.args.self.now.values.entries in
    let value = c.in_ok-from_slice.field-0 in
    let none : place_of (all_sections c.args.self.now) value.items ≡ None = rw c.in_ok-from_slice.ensures.items (sym (place_of-keys keys rows c.args.name.now) ∙ sym c.get_index_of.ensures.index ∙ c.in_default.is) in
    record {
      placed = elim (either_way c.insert_full.result (c.insert_full.new.self.keys ≡ insert_key (λ one other. pointwise nat_eq one.items other.items) keys value) (c.insert_full.new.self.keys ≡ keys) c.insert_full.ensures.keys c.insert_full.ensures.err) [
        | inl e ↦ rw (e, insert_key-new keys rows c.args.self.now.placed value none) (placed-new keys rows c.args.self.now.placed value none)
        | inr e ↦ rw e c.args.self.now.placed
      ];
    }

pub returns-clause-sections : goal.returns-clause-sections
returns-clause-sections c =
    let keys = c.args.self.now.names.keys in
    let rows = rows_of c.args.self.now.values.entries in
    let value = c.in_ok-from_slice.field-0 in
    let none : place_of (all_sections c.args.self.now) value.items ≡ None = rw c.in_ok-from_slice.ensures.items (sym (place_of-keys keys rows c.args.name.now) ∙ sym c.get_index_of.ensures.index ∙ c.in_default.is) in
    rw (← c.in_ok-from_slice.ensures.items)
    (ap (λ keys. sections_by 0 (names_of keys) rows) (c.in_ok-at.ensures.keys ∙ insert_key-new keys rows c.args.self.now.placed value none)
    ∙ sections-new keys rows c.args.self.now.placed value none)

pub returns-clause-place : goal.returns-clause-place
returns-clause-place c =
    let keys = c.args.self.now.names.keys in
    let rows = rows_of c.args.self.now.values.entries in
    let value = c.in_ok-from_slice.field-0 in
    let none : place_of (all_sections c.args.self.now) value.items ≡ None = rw c.in_ok-from_slice.ensures.items (sym (place_of-keys keys rows c.args.name.now) ∙ sym c.get_index_of.ensures.index ∙ c.in_default.is) in
    rw (← c.in_ok-from_slice.ensures.items)
    (ap (λ keys. place_of (sections_by 0 (names_of keys) rows) value.items) (c.in_ok-at.ensures.keys ∙ insert_key-new keys rows c.args.self.now.placed value none)
    ∙ place-new keys rows c.args.self.now.placed value none ∙ ap Some (sym c.in_ok-at.ensures.index))

pub returns-clause-others : goal.returns-clause-others
returns-clause-others c =
    let keys = c.args.self.now.names.keys in
    let rows = rows_of c.args.self.now.values.entries in
    let value = c.in_ok-from_slice.field-0 in
    let none : place_of (all_sections c.args.self.now) value.items ≡ None = rw c.in_ok-from_slice.ensures.items (sym (place_of-keys keys rows c.args.name.now) ∙ sym c.get_index_of.ensures.index ∙ c.in_default.is) in
    rw (c.in_ok-at.ensures.keys, insert_key-new keys rows c.args.self.now.placed value none) (stays-new keys rows value)
