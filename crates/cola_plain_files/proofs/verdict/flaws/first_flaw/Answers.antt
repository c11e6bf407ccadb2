use Rattle.cola_verdict.specs.declared.verdict.Flaw.TheVariants as flaw
use Rattle.cola_plain_files.specs.File.{file_of}
use Rattle.cola_verdict.specs.Verdict.{Passes, FailsAt}
use Rattle.cola_plain_files.proofs.File.{some_of, none_of}
use Rattle.cola_plain_files.proofs.verdict.flaws.first_flaw.Goals as goal

pub returns-in-Some : goal.returns-in-Some
returns-in-Some c = λ bytes told same.
    let file = file_of c.args.header.now bytes in
    ((told, tt), some_of c.in_ok-at.field-0 (Passes file flaw.Order) (λ place. FailsAt file flaw.Order place.0 place.1) c.in-Some.at c.in-Some.is (c.in_ok-at.ensures bytes same))

pub returns-in-Some-2 : goal.returns-in-Some-2
returns-in-Some-2 c = λ bytes told same.
    let file = file_of c.args.header.now bytes in
    ((told, (none_of c.in_ok-at.field-0 (Passes file flaw.Order) (λ place. FailsAt file flaw.Order place.0 place.1) c.in-None.is (c.in_ok-at.ensures bytes same), tt)), some_of c.in_ok-at-2.field-0 (Passes file flaw.Sample) (λ place. FailsAt file flaw.Sample place.0 place.1) c.in-Some-2.at c.in-Some-2.is (c.in_ok-at-2.ensures bytes same))

pub returns-in-Some-3 : goal.returns-in-Some-3
returns-in-Some-3 c = λ bytes told same.
    let file = file_of c.args.header.now bytes in
    ((told, (none_of c.in_ok-at.field-0 (Passes file flaw.Order) (λ place. FailsAt file flaw.Order place.0 place.1) c.in-None.is (c.in_ok-at.ensures bytes same), (none_of c.in_ok-at-2.field-0 (Passes file flaw.Sample) (λ place. FailsAt file flaw.Sample place.0 place.1) c.in-None-2.is (c.in_ok-at-2.ensures bytes same), tt))), some_of c.in_ok-at-3.field-0 (Passes file flaw.Length) (λ place. FailsAt file flaw.Length place.0 place.1) c.in-Some-3.at c.in-Some-3.is (c.in_ok-at-3.ensures bytes same))

pub returns-in-Some-4 : goal.returns-in-Some-4
returns-in-Some-4 c = λ bytes told same.
    let file = file_of c.args.header.now bytes in
    ((told, (none_of c.in_ok-at.field-0 (Passes file flaw.Order) (λ place. FailsAt file flaw.Order place.0 place.1) c.in-None.is (c.in_ok-at.ensures bytes same), (none_of c.in_ok-at-2.field-0 (Passes file flaw.Sample) (λ place. FailsAt file flaw.Sample place.0 place.1) c.in-None-2.is (c.in_ok-at-2.ensures bytes same), (none_of c.in_ok-at-3.field-0 (Passes file flaw.Length) (λ place. FailsAt file flaw.Length place.0 place.1) c.in-None-3.is (c.in_ok-at-3.ensures bytes same), tt)))), some_of c.in_ok-at-4.field-0 (Passes file flaw.Shadow) (λ place. FailsAt file flaw.Shadow place.0 place.1) c.in-Some-4.at c.in-Some-4.is (c.in_ok-at-4.ensures bytes same))

pub returns-in-Some-5 : goal.returns-in-Some-5
returns-in-Some-5 c = λ bytes told same.
    let file = file_of c.args.header.now bytes in
    ((told, (none_of c.in_ok-at.field-0 (Passes file flaw.Order) (λ place. FailsAt file flaw.Order place.0 place.1) c.in-None.is (c.in_ok-at.ensures bytes same), (none_of c.in_ok-at-2.field-0 (Passes file flaw.Sample) (λ place. FailsAt file flaw.Sample place.0 place.1) c.in-None-2.is (c.in_ok-at-2.ensures bytes same), (none_of c.in_ok-at-3.field-0 (Passes file flaw.Length) (λ place. FailsAt file flaw.Length place.0 place.1) c.in-None-3.is (c.in_ok-at-3.ensures bytes same), (none_of c.in_ok-at-4.field-0 (Passes file flaw.Shadow) (λ place. FailsAt file flaw.Shadow place.0 place.1) c.in-None-4.is (c.in_ok-at-4.ensures bytes same), tt))))), some_of c.in_ok-at-5.field-0 (Passes file flaw.Live) (λ place. FailsAt file flaw.Live place.0 place.1) c.in-Some-5.at c.in-Some-5.is (c.in_ok-at-5.ensures bytes same))

pub returns-in-None-5 : goal.returns-in-None-5
returns-in-None-5 c = λ bytes told same.
    let file = file_of c.args.header.now bytes in
    (told, (none_of c.in_ok-at.field-0 (Passes file flaw.Order) (λ place. FailsAt file flaw.Order place.0 place.1) c.in-None.is (c.in_ok-at.ensures bytes same), (none_of c.in_ok-at-2.field-0 (Passes file flaw.Sample) (λ place. FailsAt file flaw.Sample place.0 place.1) c.in-None-2.is (c.in_ok-at-2.ensures bytes same), (none_of c.in_ok-at-3.field-0 (Passes file flaw.Length) (λ place. FailsAt file flaw.Length place.0 place.1) c.in-None-3.is (c.in_ok-at-3.ensures bytes same), (none_of c.in_ok-at-4.field-0 (Passes file flaw.Shadow) (λ place. FailsAt file flaw.Shadow place.0 place.1) c.in-None-4.is (c.in_ok-at-4.ensures bytes same), (none_of c.in_ok-at-5.field-0 (Passes file flaw.Live) (λ place. FailsAt file flaw.Live place.0 place.1) c.in-None-5.is (c.in_ok-at-5.ensures bytes same), tt))))))
