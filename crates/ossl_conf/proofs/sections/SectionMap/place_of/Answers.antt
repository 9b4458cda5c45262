use Rattle.std.proofs.Common.{◌∙◌}
use Rattle.ossl_conf.specs.Rows.{rows_of}
use Rattle.ossl_conf.proofs.MapLaws.{place_of-keys}
use Rattle.ossl_conf.proofs.sections.SectionMap.place_of.Goals as goal

pub returns : goal.returns
returns c = c.get_index_of.ensures.index ∙ place_of-keys c.args.self.now.names.keys (rows_of c.args.self.now.values.entries) c.args.name.now
