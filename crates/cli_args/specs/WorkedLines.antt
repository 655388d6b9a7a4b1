-- Worked examples: the orders of some command lines.
use Rattle.std.specs.Prelude.{◌≡◌, true, false, List, [], ◌∷◌, Some, None, codes}
use Rattle.csv_cards.specs.declared.form.Form.TheVariants.{Cards, Columns}
use Rattle.clap.specs.Walk.{Text}
use Rattle.cli_args.specs.ParsedOrders.{order_from}
use Rattle.cli_args.specs.declared.order.Order.TheVariants as order

abbrev pub db : Text
db = codes "a.db"

abbrev pub staff : Text
staff = codes "staff"

-- an order's name, the file, and more arguments
abbrev pub over_file : Text → List Text → List Text
over_file name more = name ∷ db ∷ more

-- an order's name, the file, the book, and more arguments
abbrev pub over_book : Text → List Text → List Text
over_book name more = over_file name (staff ∷ more)

abbrev pub WorkedOrders : Type 0
WorkedOrders =
    (order_from [] ≡ Some order.Try)
    × (order_from (codes "try" ∷ []) ≡ Some order.Try)
    × (order_from (over_file (codes "init") []) ≡ Some (order.Init db))
    × (order_from (over_book (codes "book") []) ≡ Some (order.Book db staff))
    × (order_from (over_book (codes "import") (codes "k" ∷ codes "a.csv" ∷ []))
    ≡ Some (order.Import db staff (codes "k") (codes "a.csv")))
    × (order_from (over_book (codes "tally") []) ≡ Some (order.Tally db staff))
    × (order_from (over_book (codes "expand") (codes "a" ∷ []))
    ≡ Some (order.Expand db staff (codes "a")))
    × (order_from (over_file (codes "migrate") []) ≡ Some (order.Migrate db))

abbrev pub WorkedFiles : Type 0
WorkedFiles =
    (order_from (codes "check" ∷ codes "a.csv" ∷ []) ≡ Some (order.Check (codes "a.csv")))
    × (order_from (over_file (codes "books") []) ≡ Some (order.Books db))
    × (order_from (over_file (codes "verify") []) ≡ Some (order.Verify db))
    × (order_from (codes "check" ∷ []) ≡ None)
    × (order_from (over_book (codes "books") []) ≡ None)

abbrev pub WorkedConversions : Type 0
WorkedConversions =
    (order_from (codes "convert" ∷ codes "a.vcf" ∷ [])
    ≡ Some (order.Convert (codes "a.vcf") [] None None None false false None None None None))
    × (order_from (codes "convert" ∷ codes "a.vcf" ∷ codes "--to=b" ∷ codes "--rows=10000"
    ∷ codes "--octets" ∷ codes "8388608" ∷ [])
    ≡ Some (order.Convert (codes "a.vcf") [] (Some (codes "b")) (Some 10000) (Some 8388608) false
    false None None None None))
    × (order_from (codes "convert" ∷ codes "a.csv" ∷ codes "--day-first" ∷ codes "--columns=N=fn"
    ∷ codes "--charset=koi8-r" ∷ codes "--report" ∷ codes "r" ∷ [])
    ≡ Some (order.Convert (codes "a.csv") [] None None None true false (Some (codes "N=fn"))
    (Some (codes "koi8-r")) (Some (codes "r")) None))
    × (order_from (codes "convert" ∷ codes "a.csv" ∷ codes "--month-first" ∷ [])
    ≡ Some (order.Convert (codes "a.csv") [] None None None false true None None None None))
    × (order_from (codes "convert" ∷ codes "a.csv" ∷ codes "--day-first" ∷ codes "--month-first"
    ∷ []) ≡ None)
    × (order_from (codes "convert" ∷ codes "a.vcf" ∷ codes "--report=r" ∷ codes "b.csv"
    ∷ codes "--photos" ∷ codes "p" ∷ codes "c.vcf" ∷ [])
    ≡ Some (order.Convert (codes "a.vcf") (codes "b.csv" ∷ codes "c.vcf" ∷ []) None None None false
    false None None (Some (codes "r")) (Some (codes "p"))))
    × (order_from (codes "convert" ∷ codes "a.vcf" ∷ codes "--rows=10001" ∷ []) ≡ None)
    × (order_from (codes "convert" ∷ codes "a.vcf" ∷ codes "--octets=0" ∷ []) ≡ None)
    × (order_from (codes "convert" ∷ codes "a.vcf" ∷ codes "--octets=8388609" ∷ []) ≡ None)
    × (order_from (codes "convert" ∷ []) ≡ None)

abbrev pub WorkedVersions : Type 0
WorkedVersions =
    (order_from (codes "--version" ∷ []) ≡ Some order.Version)
    × (order_from (codes "-V" ∷ []) ≡ Some order.Version)
    × (order_from (codes "--version" ∷ over_book (codes "tally") []) ≡ Some order.Version)
    × (order_from (over_book (codes "tally") (codes "--version" ∷ [])) ≡ None)
    × (order_from (codes "--version=2" ∷ []) ≡ None)
    × (order_from (codes "version" ∷ []) ≡ None)

abbrev pub WorkedDefaults : Type 0
WorkedDefaults =
    (order_from (over_file (codes "serve") []) ≡ Some (order.Serve db 0 1))
    × (order_from (over_book (codes "export") []) ≡ Some (order.Export db staff Cards))
    × (order_from (over_book (codes "mirror") []) ≡ Some (order.Mirror db staff 100 1000))

abbrev pub WorkedPorts : Type 0
WorkedPorts =
    (order_from (over_file (codes "serve") (codes "--port=8" ∷ [])) ≡ Some (order.Serve db 8 1))
    × (order_from (over_file (codes "serve") (codes "--port" ∷ codes "65535" ∷ []))
    ≡ Some (order.Serve db 65535 1))
    × (order_from (over_file (codes "serve") (codes "--port" ∷ codes "65536" ∷ [])) ≡ None)

abbrev pub WorkedConnections : Type 0
WorkedConnections =
    (order_from (over_file (codes "serve") (codes "--connections=1000000" ∷ []))
    ≡ Some (order.Serve db 0 1000000))
    × (order_from (over_file (codes "serve") (codes "--connections=1000001" ∷ [])) ≡ None)
    × (order_from (over_file (codes "serve") (codes "--connections=0" ∷ [])) ≡ None)

abbrev pub WorkedServes : Type 0
WorkedServes =
    (order_from (over_file (codes "serve") (codes "--connections=9" ∷ codes "--port=8" ∷ []))
    ≡ Some (order.Serve db 8 9))
    × (order_from (over_file (codes "serve") (codes "--max-open=1" ∷ [])) ≡ None)
    × (order_from (over_file (codes "serve") (codes "--idle-timeout=1" ∷ [])) ≡ None)
    × (order_from (over_file (codes "serve") (codes "--log" ∷ [])) ≡ None)

abbrev pub WorkedRuns : Type 0
WorkedRuns =
    (order_from (over_file (codes "run") [])
    ≡ Some (order.Run db 8080 None [] 256 60 64 false false None))
    × (order_from (over_file (codes "run")
    (codes "--host=a" ∷ codes "--create" ∷ codes "--host" ∷ codes "b" ∷ codes "--log" ∷ []))
    ≡ Some (order.Run db 8080 None (codes "a" ∷ codes "b" ∷ []) 256 60 64 true true None))
    × (order_from (over_file (codes "run")
    (codes "--port=0" ∷ codes "--max-open=1000" ∷ codes "--idle-timeout=1" ∷ []))
    ≡ Some (order.Run db 0 None [] 1000 1 64 false false None))
    × (order_from (over_file (codes "run") (codes "--site" ∷ codes "desk" ∷ []))
    ≡ Some (order.Run db 8080 None [] 256 60 64 false false (Some (codes "desk"))))
    × (order_from (over_file (codes "run") (codes "--connections=1" ∷ [])) ≡ None)
    × (order_from (over_file (codes "run") (codes "--host=[::1]" ∷ []))
    ≡ Some (order.Run db 8080 None (codes "[::1]" ∷ []) 256 60 64 false false None))
    × (order_from (over_file (codes "run") (codes "--host=a" ∷ codes "--host=b c" ∷ [])) ≡ None)
    × (order_from (over_file (codes "run") (codes "--host" ∷ [] ∷ [])) ≡ None)

abbrev pub WorkedSockets : Type 0
WorkedSockets =
    (order_from (over_file (codes "run") (codes "--socket=s" ∷ []))
    ≡ Some (order.Run db 8080 (Some (codes "s")) [] 256 60 64 false false None))
    × (order_from (over_file (codes "run") (codes "--socket" ∷ codes "s" ∷ codes "--port=8080" ∷
    []))
    ≡ None)
    × (order_from (over_file (codes "run") (codes "--socket=s" ∷ codes "--socket=s" ∷ [])) ≡ None)
    × (order_from (over_file (codes "run") (codes "--socket" ∷ [] ∷ [])) ≡ None)
    × (order_from (over_file (codes "serve") (codes "--socket=s" ∷ [])) ≡ None)

abbrev pub WorkedLimits : Type 0
WorkedLimits =
    (order_from (over_file (codes "run") (codes "--max-open=1" ∷ codes "--idle-timeout=3600" ∷ []))
    ≡ Some (order.Run db 8080 None [] 1 3600 64 false false None))
    × (order_from (over_file (codes "run") (codes "--max-open=1001" ∷ [])) ≡ None)
    × (order_from (over_file (codes "run") (codes "--max-open=0" ∷ [])) ≡ None)
    × (order_from (over_file (codes "run") (codes "--idle-timeout=3601" ∷ [])) ≡ None)
    × (order_from (over_file (codes "run") (codes "--idle-timeout=0" ∷ [])) ≡ None)

abbrev pub WorkedHolds : Type 0
WorkedHolds =
    (order_from (over_file (codes "run") (codes "--max-held=16" ∷ []))
    ≡ Some (order.Run db 8080 None [] 256 60 16 false false None))
    × (order_from (over_file (codes "run") (codes "--max-held" ∷ codes "1024" ∷ []))
    ≡ Some (order.Run db 8080 None [] 256 60 1024 false false None))
    × (order_from (over_file (codes "run") (codes "--max-held=15" ∷ [])) ≡ None)
    × (order_from (over_file (codes "run") (codes "--max-held=1025" ∷ [])) ≡ None)
    × (order_from (over_file (codes "serve") (codes "--max-held=64" ∷ [])) ≡ None)

abbrev pub WorkedLogs : Type 0
WorkedLogs =
    (order_from (over_file (codes "run") (codes "--log" ∷ []))
    ≡ Some (order.Run db 8080 None [] 256 60 64 false true None))
    × (order_from (over_file (codes "run") (codes "--log=yes" ∷ [])) ≡ None)
    × (order_from (over_file (codes "run") (codes "--log" ∷ codes "--log" ∷ [])) ≡ None)
    × (order_from (over_book (codes "tally") (codes "--log" ∷ [])) ≡ None)

abbrev pub WorkedForms : Type 0
WorkedForms =
    (order_from (over_book (codes "export") (codes "--form=columns" ∷ []))
    ≡ Some (order.Export db staff Columns))
    × (order_from (over_book (codes "export") (codes "--form=rows" ∷ [])) ≡ None)

abbrev pub WorkedCards : Type 0
WorkedCards =
    (order_from (over_book (codes "export") (codes "--vcf" ∷ []))
    ≡ Some (order.ExportCards db staff false))
    × (order_from (over_book (codes "export") (codes "--vcf" ∷ codes "--as=3.0" ∷ []))
    ≡ Some (order.ExportCards db staff true))
    × (order_from (over_book (codes "export") (codes "--as" ∷ codes "4.0" ∷ codes "--vcf" ∷ []))
    ≡ Some (order.ExportCards db staff false))
    × (order_from (over_book (codes "export") (codes "--vcf" ∷ codes "--as=2.1" ∷ [])) ≡ None)
    × (order_from (over_book (codes "export") (codes "--as=3.0" ∷ [])) ≡ None)
    × (order_from (over_book (codes "export") (codes "--vcf" ∷ codes "--form=cards" ∷ [])) ≡ None)

abbrev pub WorkedNumbers : Type 0
WorkedNumbers =
    (order_from (over_book (codes "forget") (codes "999999999999999" ∷ []))
    ≡ Some (order.Forget db staff 999999999999999))
    × (order_from (over_book (codes "forget") (codes "1000000000000000" ∷ [])) ≡ None)

abbrev pub WorkedPages : Type 0
WorkedPages =
    (order_from (over_book (codes "mirror") (codes "--limit=0" ∷ codes "--pages=1000000" ∷ []))
    ≡ Some (order.Mirror db staff 0 1000000))
    × (order_from (over_book (codes "mirror") (codes "--pages=1000001" ∷ [])) ≡ None)
    × (order_from (over_book (codes "mirror") (codes "--pages=0" ∷ [])) ≡ None)
    × (order_from (over_book (codes "mirror") (codes "--limit=1000000000000000" ∷ [])) ≡ None)

abbrev pub WorkedCopies : Type 0
WorkedCopies =
    (order_from (over_file (codes "copy") (codes "b.db" ∷ []))
    ≡ Some (order.Copy db (codes "b.db") []))
    × (order_from (over_file (codes "copy") []) ≡ None)
    × (order_from (over_file (codes "copy") (codes "b.db" ∷ codes "--without=staff"
    ∷ codes "--without" ∷ codes "desk" ∷ []))
    ≡ Some (order.Copy db (codes "b.db") (staff ∷ codes "desk" ∷ [])))
    × (order_from (over_file (codes "copy") (codes "b.db" ∷ codes "--without" ∷ [])) ≡ None)
    × (order_from (codes "restore" ∷ codes "b.db" ∷ db ∷ [])
    ≡ Some (order.Restore (codes "b.db") db 500000))
    × (order_from (codes "restore" ∷ codes "b.db" ∷ db ∷ codes "--skip=2" ∷ [])
    ≡ Some (order.Restore (codes "b.db") db 1))
    × (order_from (codes "restore" ∷ codes "b.db" ∷ []) ≡ None)

abbrev pub WorkedResyncs : Type 0
WorkedResyncs =
    (order_from (over_file (codes "resync") []) ≡ Some (order.Resync db 500000))
    × (order_from (over_file (codes "resync") (codes "--skip=2" ∷ [])) ≡ Some (order.Resync db 1))
    × (order_from (over_file (codes "resync") (codes "--skip" ∷ codes "1000000000" ∷ []))
    ≡ Some (order.Resync db 500000000))
    × (order_from (over_file (codes "resync") (codes "--skip=3" ∷ [])) ≡ None)
    × (order_from (over_file (codes "resync") (codes "--skip=0" ∷ [])) ≡ None)
    × (order_from (over_file (codes "resync") (codes "--skip=1000000002" ∷ [])) ≡ None)

abbrev pub WorkedFaults : Type 0
WorkedFaults =
    (order_from (over_file (codes "tally") []) ≡ None)
    × (order_from (over_book (codes "tally") (codes "more" ∷ [])) ≡ None)
    × (order_from (codes "more" ∷ []) ≡ None)
    × (order_from (codes "help" ∷ []) ≡ None)
    × (order_from (codes "--help" ∷ []) ≡ None)
