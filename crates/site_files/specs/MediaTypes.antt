-- The media type of a file, by the ending of its name (IANA's registry of media types; RFC 9239 for
-- JavaScript). Texts are in UTF-8.
use Rattle.std.specs.Prelude.{ℕ, Bool, ◌||◌, List, codes, nat_eq}
use Rattle.std.specs.Prelude.{if◌then◌else◌}
use Rattle.std.specs.List.{ends_with}

abbrev pub ends_in : List ℕ → List ℕ → Bool
ends_in ending name = ends_with nat_eq name ending

-- the type of a picture or a font; any other file is octets of no known type
abbrev pub picture_type : List ℕ → List ℕ
picture_type name =
    if ends_in (codes ".svg") name then codes "image/svg+xml"
    else (if ends_in (codes ".png") name then codes "image/png"
    else (if ends_in (codes ".jpg") name || ends_in (codes ".jpeg") name then codes "image/jpeg"
    else (if ends_in (codes ".webp") name then codes "image/webp"
    else (if ends_in (codes ".ico") name then codes "image/vnd.microsoft.icon"
    else (if ends_in (codes ".woff2") name then codes "font/woff2"
    else codes "application/octet-stream")))))

-- the type of a file with this name; endings are compared exactly
abbrev pub media_type : List ℕ → List ℕ
media_type name =
    if ends_in (codes ".html") name then codes "text/html; charset=utf-8"
    else (if ends_in (codes ".js") name then codes "text/javascript; charset=utf-8"
    else (if ends_in (codes ".css") name then codes "text/css; charset=utf-8"
    else (if ends_in (codes ".txt") name then codes "text/plain; charset=utf-8"
    else (if ends_in (codes ".json") name then codes "application/json"
    else (if ends_in (codes ".webmanifest") name then codes "application/manifest+json"
    else picture_type name)))))
