use Rattle.std.proofs.Common.{◌≡◌, ◌+◌, ◌-◌, ◌≤◌, ◌++◌, length, take, drop}
use Rattle.ossl_chacha.specs.KeyStream.{text_from}
use Rattle.ossl_chacha.proofs.chacha.ChaCha.crypt.Given as goal

abbrev pub invariant-loop-done : goal.invariant-loop-done
invariant-loop-done l = record {
  within : l.done ≤ length l.text;
  used : l.self ≡ record l.fn.self { used = l.fn.self.used + l.done };
  text : text_from l.fn.self.key l.fn.self.iv l.fn.self.used l.fn.text
      ≡ take l.done l.text ++ text_from l.self.key l.self.iv l.self.used (drop l.done l.text);
}

abbrev pub decreases-loop-done : goal.decreases-loop-done
decreases-loop-done l = length l.initial.text - l.done
