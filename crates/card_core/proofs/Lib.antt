pub mod NamingLemmas
pub mod TextSetLemmas
pub mod RisingLemmas
pub mod ExpansionLemmas
pub mod WalkLemmas
pub mod CountLemmas
pub mod MemberLemmas
