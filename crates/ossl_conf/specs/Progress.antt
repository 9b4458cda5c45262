-- What was read so far, by a value of the code.
use Rattle.ossl_conf.specs.declared.progress.Progress.{Progress}
use Rattle.ossl_conf.specs.Kept.{all_sections}
use Rattle.ossl_conf.specs.Places.{current_name}
use Rattle.ossl_conf.specs.Reading.{Conf}

abbrev pub conf_of : Progress → Conf
conf_of progress =
    let sections = all_sections progress.sections in
    record {
      current = current_name sections progress.current;
      sections = sections;
      total = progress.total;
      left = progress.left;
    }
