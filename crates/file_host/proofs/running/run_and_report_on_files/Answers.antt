use Rattle.file_host.proofs.running.run_and_report_on_files.Goals as goal

pub returns-clause-other_order : goal.returns-clause-other_order
returns-clause-other_order g c other is other_is =
    let logs = c.run_and_report.ensures.other_order other is other_is in
    record { log = logs.log; holds = logs.holds }

pub returns-clause-bad_arguments : goal.returns-clause-bad_arguments
returns-clause-bad_arguments g c text is =
    let told = c.run_and_report.ensures.bad_arguments text is in
    (told.0, told.1)
