use Rattle.std.proofs.Common.{ℕ, ◌≡◌, ap, ◌∙◌, inl, inr}
use Rattle.smallvec.specs.SmallVec.{SmallVec}
use Rattle.ossl_conf.specs.Kept.{all_sections}
use Rattle.ossl_conf.specs.Places.{name_at}
use Rattle.ossl_conf.specs.Rows.{names_of, rows_of, sections_by}
use Rattle.indexmap.specs.IndexMap.{insert_entry}
use Rattle.ossl_conf.proofs.RowLaws.{same_key}
use Rattle.ossl_conf.proofs.MapLaws.{either_way, placed-set, sections-set, stays-rows}
use Rattle.ossl_conf.proofs.sections.SectionMap.set.Goals as goal

pub invariant_of-self : goal.invariant_of-self
invariant_of-self c =
    let keys = c.args.self.now.names.keys in
    let entries = c.args.self.now.values.entries in
    let key : ℕ × SmallVec ℕ = (c.args.at, c.args.name) in
    record {
      placed = elim (either_way c.insert.result (c.insert.new.self.entries ≡ insert_entry same_key entries key c.args.value) (c.insert.new.self.entries ≡ entries) c.insert.ensures.entries c.insert.ensures.err) [
        | inl e ↦ rw e (placed-set keys entries c.args.self.now.placed key c.args.value (name_at (all_sections c.args.self.now) c.args.at) c.requires)
        | inr e ↦ rw e c.args.self.now.placed
      ];
    }

pub returns-clause-sections : goal.returns-clause-sections
returns-clause-sections c =
    let keys = c.args.self.now.names.keys in
    let entries = c.args.self.now.values.entries in
    ap (λ entries. sections_by 0 (names_of keys) (rows_of entries)) c.in_ok-insert.ensures.entries
    ∙ sections-set keys entries c.args.self.now.placed (c.args.at, c.args.name) c.args.value (name_at (all_sections c.args.self.now) c.args.at) c.requires

pub returns-clause-others : goal.returns-clause-others
returns-clause-others c = stays-rows c.args.self.now.names.keys (rows_of c.args.self.now.values.entries) (rows_of c.insert.new.self.entries)
