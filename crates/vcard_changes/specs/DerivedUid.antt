-- The UID of a card that has none (RFC 9562, section 5.5; RFC 6350, section 6.7.6).
use Rattle.std.specs.Prelude.{ℕ, List, ◌++◌, take}
use Rattle.sha1.specs.Sha1.{sha1}
use Rattle.uuid.specs.Parts.{with_version, with_variant}
use Rattle.uuid.specs.Text.{lower, urn_text}
use Rattle.uuid.specs.Uuid.{namespace_oid}
use Rattle.uuid.specs.declared.Variant.TheVariants as variants
use Rattle.uuid.specs.declared.Version.TheVariants as versions

-- the UUID of version 5 of the octets in the namespace of object identifiers
abbrev pub derived_uuid : List ℕ → List ℕ
derived_uuid octets =
    with_version (with_variant (take 16 (sha1 (namespace_oid ++ octets))) variants.RFC4122)
    versions.Sha1

-- urn:uuid: and the UUID
abbrev pub derived_uid : List ℕ → List ℕ
derived_uid octets = urn_text lower (derived_uuid octets)
