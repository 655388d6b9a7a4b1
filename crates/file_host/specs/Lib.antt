pub mod FileHosts
