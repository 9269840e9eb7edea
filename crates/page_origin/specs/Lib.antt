pub mod HostSpelling
pub mod UrlText
pub mod PageUrls
pub mod PageUrlLayout
pub mod Origins
pub mod Refusals
