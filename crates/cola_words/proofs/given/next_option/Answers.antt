use Rattle.std.proofs.Common.{◌≡◌, ◌+◌, true, false, sym, Some, map, string_bytes, bytes_eq, codes}
use Rattle.cola_words.specs.Options.{given_of}
use Rattle.cola_words.proofs.Reading.{cost_alone, valued}
use Rattle.cola_words.proofs.given.next_option.Goals as goal

pub returns-then-eq-clause-read : goal.returns-then-eq-clause-read
returns-then-eq-clause-read c =
    let is : bytes_eq (string_bytes c.in_ok-name.name.now) (codes "--cost") ≡ true = cc in
    rw c.in_ok-name.ensures.cases.0 (cost_alone c.args.place (string_bytes c.in_ok-name.name.now) (map string_bytes c.in_ok-name.behind.now) is)

pub returns-clause-read : goal.returns-clause-read
returns-clause-read c =
    let is : bytes_eq (string_bytes c.in_ok-name.name.now) (codes "--cost") ≡ false = cc in
    let given : given_of (string_bytes c.in_ok-name.name.now) (string_bytes c.in_ok-value.value.now) (c.args.place + 1) ≡ Some c.in_ok-given.given = rw (← c.as_bytes-2.ensures.value, ← c.as_bytes-3.ensures.value) (sym c.in_ok-given.ensures) in
    rw (c.in_ok-name.ensures.cases.0, c.in_ok-value.ensures.cases.0) (valued c.args.place (string_bytes c.in_ok-name.name.now) (string_bytes c.in_ok-value.value.now) (map string_bytes c.in_ok-value.rest.now) c.in_ok-given.given is given)
