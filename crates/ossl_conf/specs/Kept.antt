-- The sections that a value of the code stands for.
use Rattle.ossl_conf.specs.declared.sections.SectionMap.{SectionMap}
use Rattle.ossl_conf.specs.Sections.{Sections}
use Rattle.ossl_conf.specs.Rows.{sections_by, names_of, rows_of}

abbrev pub all_sections : SectionMap → Sections
all_sections map = sections_by 0 (names_of map.names.keys) (rows_of map.values.entries)
